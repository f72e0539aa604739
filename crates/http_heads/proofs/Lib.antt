pub mod Lining
pub mod Heading
pub mod Scanning
pub mod Counting
pub mod Finding
pub mod Cutting
pub mod Staying
pub mod Saying
mod Digits
