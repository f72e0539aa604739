pub mod Rows
pub mod Copies
