pub mod Slots
pub mod Blocks
pub mod Takings
pub mod Keeping
