pub mod CheckRight
pub mod OneOutcome
pub mod Elaborated
