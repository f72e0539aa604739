pub mod Accepted
pub mod Shelving
pub mod Placing
