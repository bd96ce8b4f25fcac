pub mod KeepHint
pub mod Steps
