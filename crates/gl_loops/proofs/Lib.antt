pub mod Cut
pub mod Level
pub mod Lone
pub mod ByUsers
pub mod Off
pub mod Rising
