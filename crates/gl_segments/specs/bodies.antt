-- The words of loops and private functions. No public contract cites them.
pub mod Ends
pub mod Forked
pub mod Fronts
pub mod Growths
pub mod Histories
pub mod Merging
pub mod Packing
pub mod Rows
pub mod Search
pub mod Sweeps
pub mod Tables
