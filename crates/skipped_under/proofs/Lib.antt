pub mod Terms
pub mod Places
pub mod Kins
pub mod Under
