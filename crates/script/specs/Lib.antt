pub mod Stages
pub mod Outputs
pub mod Runs
pub mod inner
