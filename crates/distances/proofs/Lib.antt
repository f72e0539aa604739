pub mod Reaching
pub mod Layered
