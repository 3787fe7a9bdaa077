pub mod Tales
pub mod bodies
