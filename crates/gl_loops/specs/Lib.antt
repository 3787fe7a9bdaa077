pub mod Alone
pub mod Loops
pub mod bodies
