pub mod Exclusions
pub mod Turns
pub mod bodies
