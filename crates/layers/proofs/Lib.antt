pub mod Rising
pub mod Cutting
pub mod Passages
pub mod LayerCuts
pub mod FewPhases
