pub mod Options
pub mod Sessions
pub mod bodies
