mod Cutting
mod Digits
pub mod Decimals
pub mod Joining
mod Lining
pub mod Following
pub mod Stepping
pub mod Spelled
