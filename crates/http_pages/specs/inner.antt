pub mod Cleaned
pub mod Heads
pub mod Leads
