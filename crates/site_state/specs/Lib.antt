pub mod Opened
pub mod States
pub mod Weighed
pub mod inner
