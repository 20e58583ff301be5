pub mod Scans
pub mod Padding
