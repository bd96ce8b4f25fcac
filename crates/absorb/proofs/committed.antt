pub mod Below
pub mod Ready
pub mod Steps
pub mod Facts
