pub mod Count
pub mod Same
