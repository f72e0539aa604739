pub mod Split
pub mod Moved
pub mod Solved
pub mod Laws
