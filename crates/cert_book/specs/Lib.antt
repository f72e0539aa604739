pub mod Books
pub mod Judged
pub mod Laws
pub mod inner
