-- The words of loops and private functions. No public contract cites them.
pub mod Counted
pub mod Members
