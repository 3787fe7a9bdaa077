-- The words of loops and private functions. No public contract cites them.
pub mod Finding
pub mod Growing
pub mod Grouping
pub mod Lengths
pub mod Lesser
pub mod Tallies
