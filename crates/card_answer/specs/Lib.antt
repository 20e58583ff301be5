pub mod Carding
pub mod CardingLaws
