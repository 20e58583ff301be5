pub mod Under
pub mod Engine
pub mod Counts
pub mod UnderLaws
