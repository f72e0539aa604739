pub mod Words
pub mod Unread
pub mod Numbers
pub mod Faults
pub mod Reading
pub mod Steps
pub mod Places
pub mod inner
