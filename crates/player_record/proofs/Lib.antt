pub mod Answers
pub mod KindAsked
