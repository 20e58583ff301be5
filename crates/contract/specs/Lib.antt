pub mod Answers
pub mod Merges
