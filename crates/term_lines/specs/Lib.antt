pub mod Reading
pub mod RunLaws
pub mod LineLaws
pub mod ValidLaws
pub mod Loading
pub mod LoadLaws
