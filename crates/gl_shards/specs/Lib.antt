pub mod Ends
pub mod Feeds
pub mod Rule
pub mod Shards
pub mod Tables
