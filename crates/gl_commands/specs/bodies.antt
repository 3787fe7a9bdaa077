-- The words of loops and private functions. No public contract cites them.
pub mod Halves
pub mod Needed
pub mod Opinions
pub mod Stops
