pub mod Kinds
pub mod bodies
