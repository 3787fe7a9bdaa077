pub mod NumberedSets
pub mod Paths
pub mod Cycling
pub mod Gates
pub mod Judged
pub mod Round
pub mod Valid
pub mod Verdicts
