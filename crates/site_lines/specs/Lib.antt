pub mod Site
pub mod Drafts
