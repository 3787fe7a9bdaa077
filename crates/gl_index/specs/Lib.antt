pub mod ByLock
pub mod Indexes
pub mod Listed
pub mod Sides
pub mod Users
