pub mod Adds
pub mod Answers
pub mod Confirmed
pub mod Marks
pub mod Steps
