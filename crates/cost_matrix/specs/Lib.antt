pub mod Matrix
pub mod Places
pub mod Cells
pub mod Laying
