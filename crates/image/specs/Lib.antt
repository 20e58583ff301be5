pub mod Layout
pub mod Loaded
pub mod Entry
