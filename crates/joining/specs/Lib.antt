pub mod Joining
pub mod JoinLaws
