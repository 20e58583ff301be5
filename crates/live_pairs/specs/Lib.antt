pub mod Live
pub mod LiveLaws
