pub mod Run
pub mod Larger
