pub mod JumpExamples
pub mod Largest
pub mod Named
pub mod Rules
pub mod Values
