pub mod Actions
pub mod Sides
pub mod Transports
pub mod ActionTests
