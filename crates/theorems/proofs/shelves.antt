pub mod Parting
pub mod Areas
pub mod Shelf
