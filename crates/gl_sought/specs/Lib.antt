pub mod Components
pub mod Flags
pub mod Numbers
pub mod OffCycles
pub mod Places
pub mod Sought
pub mod Under
pub mod Walks
