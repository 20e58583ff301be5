pub mod Members
pub mod MemberRuns
