pub mod Words
pub mod Order
pub mod Columns
pub mod Times
