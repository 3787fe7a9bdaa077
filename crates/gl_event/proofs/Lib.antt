pub mod Depths
pub mod Lawfulness
pub mod HeldLemmas
pub mod HeldLocks
pub mod HeldAnswers
pub mod Refusals
pub mod States
