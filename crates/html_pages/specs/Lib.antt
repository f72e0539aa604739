pub mod Dates
pub mod Lines
pub mod Pages
pub mod Shown
pub mod Bodies
pub mod Inks
