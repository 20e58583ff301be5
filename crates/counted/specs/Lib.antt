pub mod Counted
pub mod CountedTrees
pub mod CountedRuns
pub mod CountedPool
pub mod CountedFew
pub mod CountedRun
pub mod Refused13
