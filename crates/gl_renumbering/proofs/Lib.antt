pub mod Alike
pub mod Growing
pub mod Tabled
pub mod Telling
