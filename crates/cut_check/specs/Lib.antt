pub mod Rules
pub mod Firsts
pub mod Verdict
pub mod Sides
pub mod Check
pub mod Line
pub mod Laws
pub mod inner
