pub mod Commands
pub mod Outcomes
pub mod Answers
pub mod Runs
pub mod inner
