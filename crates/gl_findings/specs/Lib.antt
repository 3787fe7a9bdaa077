pub mod Counts
pub mod Findings
pub mod Laws
pub mod Listed
pub mod Reports
pub mod bodies
