pub mod Starred
pub mod HintRecorders
pub mod Recorders
pub mod Absorbs
pub mod Hints
pub mod Merges
pub mod Versions
pub mod Marks
