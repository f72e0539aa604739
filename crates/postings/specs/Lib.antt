pub mod Posts
pub mod Judged
pub mod inner
