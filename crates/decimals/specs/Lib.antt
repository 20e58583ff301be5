pub mod Writing
pub mod DecimalLaws
pub mod WriteLaws
