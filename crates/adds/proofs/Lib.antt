pub mod Same
pub mod Fields
pub mod Parts
pub mod Seeking
pub mod Answers
