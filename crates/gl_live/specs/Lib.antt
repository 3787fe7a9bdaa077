pub mod Faults
pub mod Options
pub mod Streamed
pub mod bodies
