pub mod Sessions
pub mod Secrets
