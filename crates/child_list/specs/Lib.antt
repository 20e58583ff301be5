pub mod Adding
pub mod AddLaws
pub mod Streaming
pub mod Trials
pub mod Drawn
