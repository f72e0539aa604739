pub mod Lines
pub mod Ports
pub mod Serving
pub mod Laws
pub mod inner
