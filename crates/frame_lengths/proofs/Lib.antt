mod Widths
pub mod Frames
