-- The words of loops, private functions and private fields. No public contract cites them.
pub mod Breaking
pub mod Fronts
pub mod Opening
pub mod Shipping
pub mod Sparing
pub mod Whole
