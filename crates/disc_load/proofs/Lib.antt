pub mod Body
pub mod Answers
