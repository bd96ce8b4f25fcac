pub mod Keys
pub mod Merge
pub mod Numbers
pub mod Steps
