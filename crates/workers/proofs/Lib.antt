pub mod Asking
pub mod Rounding
