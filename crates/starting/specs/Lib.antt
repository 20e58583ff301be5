pub mod StartSizes
pub mod Report
