pub mod Copies
pub mod Hints
pub mod Held
