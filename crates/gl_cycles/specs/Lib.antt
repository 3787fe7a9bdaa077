pub mod AllCycles
pub mod Cycles
pub mod Faults
pub mod Laws
pub mod Listed
pub mod Reports
pub mod Roots
pub mod bodies
