pub mod Check
pub mod OneOutcome
pub mod Elaborate
