pub mod Clear
pub mod Enter
pub mod Lists
pub mod Table
