pub mod Beginning
pub mod BeginLaws
pub mod ReadyLaws
