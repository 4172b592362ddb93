pub mod Sound
pub mod Exchange
pub mod InitialFacts
pub mod StepFacts
pub mod Complete
pub mod SameSequents
pub mod Low
