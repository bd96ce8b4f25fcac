pub mod Reading
pub mod Inside
