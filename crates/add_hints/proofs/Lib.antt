pub mod Arriving
pub mod Added
pub mod MergeLoop
pub mod Packing
