pub mod Buffers
pub mod Chains
pub mod PartLaws
pub mod PoolLaws
pub mod Emptying
