pub mod Graphs
pub mod Idling
pub mod Turning
pub mod Passing
pub mod Running
