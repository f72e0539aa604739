pub mod Admission
pub mod Books
pub mod Opening
pub mod inner
pub mod Laws
