pub mod Writes
pub mod WriterLaws
