pub mod Joins
pub mod Readers
