pub mod Accepting
pub mod Answering
pub mod AsItComes
pub mod FirstFaults
pub mod Uniqueness
