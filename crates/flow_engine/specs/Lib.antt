pub mod Solved
pub mod inner
