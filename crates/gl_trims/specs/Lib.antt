pub mod Trims
pub mod bodies
