pub mod JumpExamples
pub mod Names
pub mod Statements
