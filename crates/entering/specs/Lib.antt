pub mod Entered
pub mod Growing
pub mod EnteredLaws
pub mod GrowLaws
