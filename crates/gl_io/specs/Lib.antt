pub mod Positions
pub mod Reads
pub mod Uses
pub mod Wrapped
pub mod bodies
