pub mod Limits
pub mod bodies
