pub mod Building
pub mod Ending
pub mod JoinLaws
pub mod TurnLaws
pub mod Built
