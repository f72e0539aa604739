pub mod Escapes
pub mod Elements
pub mod Urls
pub mod Tags
pub mod Cleaning
pub mod Safe
pub mod Reader
pub mod inner
