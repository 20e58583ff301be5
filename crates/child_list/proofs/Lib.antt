pub mod Buffer
pub mod Insert
pub mod Answer
