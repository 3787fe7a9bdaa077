pub mod LockValues
pub mod Lists
pub mod Tables
pub mod Listed
pub mod Using
