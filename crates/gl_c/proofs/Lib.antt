pub mod Counts
mod LaneSteps
mod MadeSteps
pub mod Pulls
mod SessionSteps
pub mod ThreadNames
pub mod Turns
pub mod Unsettled
