pub mod Played
mod Counting
mod Worth
