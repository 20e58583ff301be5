pub mod Passing
pub mod PassLaws
pub mod Reading
