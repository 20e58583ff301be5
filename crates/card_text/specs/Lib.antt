pub mod CopyLaws
pub mod PieceLaws
pub mod TermLaws
