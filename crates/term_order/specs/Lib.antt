pub mod Comparing
pub mod CompareLaws
pub mod Steps
