pub mod Layout
pub mod Output
pub mod Save
pub mod Steps
