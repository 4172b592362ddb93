-- Calculi whose steps name instances of rules, and what derivations, certificates and play are in
-- any of them.
pub mod Rules
pub mod Derivation
pub mod Certificate
pub mod Play
pub mod Lawful
pub mod Laws
pub mod Low
