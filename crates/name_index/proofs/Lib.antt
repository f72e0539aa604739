mod SpreadKeys
mod Buckets
pub mod Indexing
mod Listed
mod Numbering
