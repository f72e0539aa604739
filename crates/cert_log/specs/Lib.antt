pub mod Standing
pub mod Log
pub mod inner
