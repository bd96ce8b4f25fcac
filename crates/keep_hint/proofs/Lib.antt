pub mod Places
pub mod Marked
