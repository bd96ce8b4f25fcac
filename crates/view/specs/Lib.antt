pub mod Sections
pub mod Steps
pub mod View
