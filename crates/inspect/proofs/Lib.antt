pub mod Left
pub mod Sections
pub mod Tails
pub mod Whole
