pub mod Bounded
pub mod Sound
pub mod Lowest
pub mod Highest
