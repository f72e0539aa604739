pub mod Growing
pub mod Legality
pub mod Revisions
