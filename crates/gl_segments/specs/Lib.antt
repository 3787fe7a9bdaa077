pub mod Clocks
pub mod Faults
pub mod Orders
pub mod Segments
pub mod Laws
pub mod bodies
