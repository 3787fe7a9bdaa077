pub mod InComponents
pub mod InShares
