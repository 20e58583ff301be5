pub mod Forms
pub mod RunLaws
pub mod SeriesLaws
pub mod FormLaws
