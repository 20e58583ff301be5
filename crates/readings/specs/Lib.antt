pub mod ReadingsNode
pub mod Best
pub mod Starting
pub mod ReadingsActions
pub mod ReadingsMade
pub mod Readings
