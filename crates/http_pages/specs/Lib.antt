pub mod Responses
pub mod Fixed
pub mod Views
pub mod Rosters
pub mod Answers
pub mod Safe
pub mod inner
