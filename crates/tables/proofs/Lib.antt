pub mod Kept
pub mod Records
pub mod Rest
pub mod Tests
pub mod Walk
pub mod Reading
pub mod Frames
pub mod Files
