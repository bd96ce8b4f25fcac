pub mod Later
pub mod Refusal
