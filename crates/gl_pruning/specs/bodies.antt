-- The words of loops and private functions. No public contract cites them.
pub mod Covers
pub mod Shares
