-- The words of loops and private functions. No public contract cites them.
pub mod Workloads
pub mod Padded
pub mod Ready
pub mod Runs
pub mod Rosters
pub mod Streams
