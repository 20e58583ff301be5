pub mod CardReading
pub mod CardLaws
