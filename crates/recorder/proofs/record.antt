pub mod Writing
pub mod Recording
