pub mod Links
pub mod Clocks
pub mod Words
pub mod Ports
pub mod Spawners
pub mod Memory
