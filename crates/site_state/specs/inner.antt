pub mod Opening
pub mod Parts
pub mod Seeds
pub mod States
