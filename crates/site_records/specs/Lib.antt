pub mod Records
pub mod Rows
pub mod Laws
pub mod inner
