pub mod Frame
pub mod FrameLaws
pub mod Printing
