pub mod Wanted
