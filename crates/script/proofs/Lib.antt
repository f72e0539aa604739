pub mod Sizes
pub mod Growing
pub mod Running
pub mod Looking
