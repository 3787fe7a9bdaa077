pub mod Stream
pub mod Keeping
pub mod bodies
