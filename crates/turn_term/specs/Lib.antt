pub mod Agreeing
pub mod FinalTerm
pub mod FinalTermLaws
