pub mod Returns
pub mod Cases
pub mod Reaches
pub mod Children
pub mod Narrows
pub mod Cards
pub mod CardCases
