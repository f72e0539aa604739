pub mod Causes
pub mod Bytes
pub mod Calls
pub mod KeptRows
pub mod Memory
pub mod Reading
pub mod Standard
