pub mod Recorder
pub mod Steps
