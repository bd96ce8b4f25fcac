pub mod Layouts
pub mod Views
pub mod Roles
