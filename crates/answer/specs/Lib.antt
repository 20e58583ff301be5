pub mod Responding
pub mod RespondingLaws
