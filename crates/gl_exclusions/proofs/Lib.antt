pub mod Gated
pub mod NotLonger
pub mod Partnered
