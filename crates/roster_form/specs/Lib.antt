pub mod LevelRosters
pub mod Bounded
pub mod Candidates
