pub mod Bytes
pub mod Fields
pub mod Format
pub mod Native
pub mod Number
pub mod Records
