pub mod Fields
pub mod Number
pub mod Records
