pub mod inner
pub mod Numbers
