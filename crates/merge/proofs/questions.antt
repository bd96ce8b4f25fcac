pub mod Refusal
pub mod Ready
pub mod Held
