pub mod Reached
pub mod Ways
pub mod Passed
pub mod Held
