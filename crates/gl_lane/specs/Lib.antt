pub mod Lanes
pub mod OwnLanes
pub mod Rule
pub mod bodies
