-- The words of loops and private functions. No public contract cites them.
pub mod Blocks
pub mod Dealt
pub mod Searching
