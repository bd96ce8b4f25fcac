pub mod Coverage
pub mod CoverageExamples
pub mod Lines
pub mod Statements
