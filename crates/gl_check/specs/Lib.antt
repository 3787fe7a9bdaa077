pub mod Checked
pub mod Cycles
pub mod Edges
pub mod Faults
pub mod Laws
pub mod Shape
pub mod Signatures
