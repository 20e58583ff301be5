pub mod Code
pub mod Lists
pub mod Records
pub mod Search
