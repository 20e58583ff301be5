pub mod Samples
pub mod Skipped
pub mod Slips
pub mod Bounds
pub mod Refusals
pub mod Limits
pub mod Callers
pub mod Checks
