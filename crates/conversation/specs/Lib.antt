pub mod Conversations
pub mod Ends
pub mod Laws
pub mod inner
