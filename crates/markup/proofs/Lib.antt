mod Each
pub mod Fronts
mod Tagging
mod Cleaned
mod Stepping
pub mod Safety
mod Utf8
mod Reader
