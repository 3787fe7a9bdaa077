pub mod ByKinds
pub mod Closing
pub mod OfOneKind
