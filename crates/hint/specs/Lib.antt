pub mod Density
pub mod Hint
pub mod Steps
