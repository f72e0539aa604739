pub mod Site
pub mod View
pub mod Faults
pub mod inner
