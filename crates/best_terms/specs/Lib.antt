pub mod BestLaws
pub mod Bests
pub mod Reaching
pub mod ReachLaws
pub mod Building
pub mod Starting
