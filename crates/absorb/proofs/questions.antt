pub mod Lists
pub mod Twelve
