pub mod Attack
pub mod inner
