pub mod Confirmations
pub mod Steps
