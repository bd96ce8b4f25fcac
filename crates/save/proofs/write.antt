pub mod Sections
pub mod Frames
pub mod Hints
