pub mod Itself
pub mod Remaining
pub mod Seek
pub mod SeekLaws
