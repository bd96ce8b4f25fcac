pub mod Frames
pub mod Parts
pub mod Sections
pub mod Limit
