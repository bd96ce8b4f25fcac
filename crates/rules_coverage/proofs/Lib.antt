pub mod CoverageExamples
pub mod Statements
