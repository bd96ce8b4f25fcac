pub mod Place
pub mod Confirmed
