pub mod Absorb
pub mod Steps
