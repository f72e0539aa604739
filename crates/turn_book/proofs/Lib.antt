pub mod Entries
pub mod Places
pub mod Keeps
pub mod Seats
pub mod Suits
pub mod Fronts
