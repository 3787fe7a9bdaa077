-- The words of loops and private functions. No public contract cites them.
pub mod Epochs
pub mod Loops
pub mod Ranks
pub mod Users
