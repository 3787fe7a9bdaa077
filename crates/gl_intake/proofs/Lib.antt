pub mod Streams
pub mod Next
pub mod Kept
pub mod Fresh
pub mod Order
pub mod Room
pub mod Lawful
