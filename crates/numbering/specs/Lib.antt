pub mod Numbering
pub mod WalkLaws
pub mod NumberLaws
pub mod VisitLaws
