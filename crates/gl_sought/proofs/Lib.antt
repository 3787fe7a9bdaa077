pub mod Answered
pub mod Apart
pub mod Back
pub mod Fewer
pub mod Places
