pub mod KeyTables
pub mod Indexes
