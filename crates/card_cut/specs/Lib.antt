pub mod Cutting
pub mod NumberLaws
pub mod SignLaws
pub mod PlainLaws
pub mod CutLaws
