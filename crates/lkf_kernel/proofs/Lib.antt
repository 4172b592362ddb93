pub mod Places
pub mod Literals
pub mod CutFacts
pub mod CutLists
pub mod ErasureFacts
pub mod SameSequents
pub mod ByNames
pub mod Shallow
