-- The words of loops and private functions. No public contract cites them.
pub mod Batches
pub mod Clashing
pub mod Gatherers
pub mod Marking
pub mod Numberers
pub mod Seen
pub mod Sharing
pub mod Tables
