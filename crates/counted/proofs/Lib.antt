pub mod CountedPool
pub mod CountedFew
pub mod CountedRun
pub mod Refused13
