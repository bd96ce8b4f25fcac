pub mod Agreeing
pub mod Frames
pub mod Rule
pub mod Putting
pub mod Stored
pub mod Steps
pub mod Adding
pub mod Callers
