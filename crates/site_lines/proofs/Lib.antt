mod Saying
mod Drafting
mod Entering
mod Marking
mod Parting
pub mod Keeping
pub mod Graphs
