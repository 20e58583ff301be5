pub mod Counted
pub mod From
pub mod Lists
