-- The words of private functions. No public contract cites them.
pub mod Parts
pub mod Searches
