pub mod Classes
pub mod Grounds
pub mod Models
pub mod Passing
pub mod Running
pub mod Spanning
pub mod Starting
pub mod bodies
