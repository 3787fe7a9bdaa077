pub mod Ends
pub mod Keying
pub mod Lesser
pub mod Listed
pub mod Passing
pub mod Places
pub mod Steps
