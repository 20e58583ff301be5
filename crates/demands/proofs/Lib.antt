pub mod FirstLine
pub mod ListingTells
pub mod SkippedPairs
pub mod Skipped
pub mod Checks
pub mod Callers
