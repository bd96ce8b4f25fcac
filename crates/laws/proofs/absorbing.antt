pub mod Rising
pub mod Twelve
