pub mod DiscSave
pub mod Steps
