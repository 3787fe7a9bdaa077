pub mod Accepting
pub mod Watching
pub mod Beside
pub mod Removing
