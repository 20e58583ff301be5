pub mod Again
pub mod Numbers
pub mod Shared
pub mod Walk
