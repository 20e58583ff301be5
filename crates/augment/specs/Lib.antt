pub mod Balance
pub mod Sending
pub mod Solved
pub mod SolvedLaws
pub mod HasPlan
pub mod Solves
