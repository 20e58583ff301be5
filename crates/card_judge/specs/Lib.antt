pub mod Bound
pub mod MarkLaws
pub mod JudgeLaws
pub mod SignedLaws
