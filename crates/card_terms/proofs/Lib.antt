pub mod StackLaws
pub mod ReadLaws
