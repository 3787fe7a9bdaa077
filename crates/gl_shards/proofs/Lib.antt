pub mod InOrder
pub mod Messages
pub mod Serving
pub mod Uniting
