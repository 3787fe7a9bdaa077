-- The words of loops and private functions. No public contract cites them.
pub mod Classing
