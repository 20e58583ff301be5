pub mod Transpose
pub mod Actions
pub mod Runs
