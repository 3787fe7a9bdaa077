-- The words of loops and private functions. No public contract cites them.
pub mod Ahead
pub mod Blocks
pub mod Counting
pub mod Finding
pub mod Hearing
pub mod Judgements
pub mod Lasts
pub mod Rulings
pub mod Shown
pub mod States
pub mod Stepping
pub mod Taking
pub mod Telling
