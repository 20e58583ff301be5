pub mod Terms
pub mod TermLaws
