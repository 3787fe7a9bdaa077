pub mod Dispatch
pub mod Machine
pub mod Keeping
pub mod Enabled
pub mod Headline
