pub mod Drawer
pub mod Ask
pub mod Turns
