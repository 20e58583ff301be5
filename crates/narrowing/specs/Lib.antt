pub mod Narrowing
pub mod NarrowLaws
