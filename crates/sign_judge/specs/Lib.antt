pub mod Judging
pub mod SignTests
