pub mod Slices
pub mod Public
pub mod Promise
