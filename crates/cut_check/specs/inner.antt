pub mod Searches
pub mod Cursor
pub mod Sums
pub mod Figures
pub mod Places
