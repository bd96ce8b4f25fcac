pub mod Blocks
pub mod Into
pub mod Numbers
