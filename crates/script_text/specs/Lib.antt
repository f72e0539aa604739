pub mod Faults
pub mod Places
pub mod Actors
pub mod Keywords
pub mod Lines
pub mod Scripts
pub mod inner
