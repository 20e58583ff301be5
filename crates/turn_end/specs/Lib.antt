pub mod Taking
pub mod Ending
