pub mod Questions
pub mod Parts
