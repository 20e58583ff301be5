pub mod Preparing
pub mod PreparingLaws
