pub mod Value
pub mod Diff
pub mod Sign
pub mod Bounds
pub mod Wrap
