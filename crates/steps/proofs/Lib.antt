pub mod Rounds
pub mod Plain
pub mod Outcomes
pub mod Demand3
pub mod Mirror
