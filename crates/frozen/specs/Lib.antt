pub mod Parts
pub mod Writes
pub mod Sites
pub mod Revision
pub mod inner
