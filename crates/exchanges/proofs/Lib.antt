pub mod Asking
pub mod Dating
pub mod Following
pub mod Deciding
