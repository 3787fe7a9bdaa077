pub mod OwnNotes
pub mod OwnRunning
pub mod Running
