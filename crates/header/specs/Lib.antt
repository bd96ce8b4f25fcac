pub mod Needs
pub mod Place
