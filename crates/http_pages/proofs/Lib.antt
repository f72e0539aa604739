pub mod Serving
pub mod Making
pub mod Grammar
