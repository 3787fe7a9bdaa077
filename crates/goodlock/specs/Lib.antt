pub mod Usages
