-- The words of private functions. No public contract cites them.
pub mod OwnRuns
pub mod Runs
