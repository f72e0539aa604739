pub mod Claim
pub mod Drafts
pub mod inner
