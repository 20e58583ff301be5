pub mod Visiting
pub mod VisitLaws
