mod CertEdges
mod FlowLines
mod MissingEdge
mod Values
mod Adding
mod Judging
mod Most
pub mod Passing
