pub mod Arrays
pub mod ArrayLaws
