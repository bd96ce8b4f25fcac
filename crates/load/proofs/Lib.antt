pub mod Hints
pub mod Filling
pub mod Answers
