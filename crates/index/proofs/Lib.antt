pub mod Numbers
pub mod Four
pub mod Questions
pub mod Back
pub mod Store
pub mod Standing
pub mod Left
pub mod Lent
