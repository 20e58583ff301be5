pub mod Cells
pub mod Problem
