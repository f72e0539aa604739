pub mod Gates
pub mod Rounds
pub mod inner
