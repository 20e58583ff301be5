pub mod TermEntry
pub mod CopyLaws
pub mod EnterLaws
