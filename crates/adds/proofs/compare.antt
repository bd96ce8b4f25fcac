pub mod Same
pub mod Counts
pub mod Marks
pub mod Weighing
pub mod Replaced
pub mod Hints
pub mod Confirmed
pub mod Passing
