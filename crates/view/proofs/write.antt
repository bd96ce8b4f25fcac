pub mod Laying
pub mod Words
