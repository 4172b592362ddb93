pub mod StackFacts
pub mod Sharing
pub mod NamingFacts
pub mod Courses
pub mod Coming
pub mod Judging
pub mod NamesAdded
pub mod Standing
pub mod JudgmentLaws
pub mod RejectionLaws
pub mod RefusalLaws
pub mod SameCourses
mod Ticks
pub mod OwnText
pub mod OwnVerdict
