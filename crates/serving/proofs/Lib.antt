pub mod Rising
pub mod Causes
pub mod Told
pub mod Sent
