pub mod Starting
pub mod RunLaws
pub mod Following
pub mod GraphLaws
pub mod FinishLaws
