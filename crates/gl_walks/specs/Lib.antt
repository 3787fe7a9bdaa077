pub mod Walkers
pub mod Walks
pub mod bodies
