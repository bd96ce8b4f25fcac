pub mod Examples
pub mod ShortSum
pub mod Statements
