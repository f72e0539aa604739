pub mod Forms
pub mod Pages
pub mod Actions
pub mod Requests
pub mod Refusals
pub mod Progress
pub mod Laws
