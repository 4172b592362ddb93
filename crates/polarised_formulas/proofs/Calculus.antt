-- Laws of play, certificates and derivations in any calculus.
pub mod Play
pub mod Preorder
pub mod Spelling
pub mod Naming
