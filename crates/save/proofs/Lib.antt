pub mod Sections
pub mod Numbers
pub mod Saving
