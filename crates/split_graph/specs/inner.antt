pub mod Layout
pub mod SplitArcs
pub mod Held
pub mod Capacities
pub mod Edges
pub mod Back
