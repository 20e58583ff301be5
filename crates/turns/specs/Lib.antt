pub mod Leaving
pub mod Walking
pub mod TurnLaws
