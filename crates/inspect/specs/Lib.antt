pub mod Behind
pub mod Cursors
pub mod Inspect
pub mod Steps
pub mod Tails
