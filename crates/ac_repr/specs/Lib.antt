pub mod Walk
pub mod WalkLaws
pub mod WalkTests
