pub mod Loop
pub mod Frames
pub mod Parts
pub mod Lsns
