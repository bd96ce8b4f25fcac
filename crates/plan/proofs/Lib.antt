pub mod Rising
pub mod Held
pub mod Steps
pub mod Part
pub mod Lies
pub mod Halves
