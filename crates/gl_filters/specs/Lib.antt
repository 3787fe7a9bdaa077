pub mod Asked
pub mod Cycle
pub mod Faults
pub mod Verdicts
pub mod Picked
pub mod Test
pub mod bodies
