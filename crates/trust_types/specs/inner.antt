pub mod Padded
pub mod RowParts
