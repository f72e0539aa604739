pub mod Asked
pub mod Exchanges
pub mod Answering
pub mod inner
