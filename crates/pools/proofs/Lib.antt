pub mod PoolTrees
pub mod Order
pub mod PoolIntern
pub mod PoolSort
pub mod OrderPools
pub mod OrderListing
pub mod OrderSort
