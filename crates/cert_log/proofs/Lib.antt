pub mod Leaving
pub mod Counting
pub mod Ordered
pub mod Listing
pub mod Moving
pub mod Mapping
pub mod Standing
