pub mod Part
pub mod Plan
pub mod Search
pub mod Steps
