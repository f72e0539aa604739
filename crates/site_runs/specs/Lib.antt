pub mod Words
pub mod Drills
pub mod Runs
pub mod inner
