pub mod Runs
pub mod Listed
