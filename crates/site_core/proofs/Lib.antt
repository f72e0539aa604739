pub mod Admission
pub mod Keeping
mod RowsRead
mod Reopening
mod RowsOpen
