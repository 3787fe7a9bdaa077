pub mod Rostered
pub mod Dealt
pub mod Opened
pub mod Leaving
pub mod Padding
pub mod Following
pub mod Streamings
pub mod NextEvents
