pub mod Pad
pub mod PadLaws
