pub mod Interning
pub mod SameLaws
pub mod ChainLaws
pub mod InternLaws
pub mod Growing
pub mod GrowLaws
