pub mod Tests
pub mod Walk
pub mod Same
pub mod FirstRecord
pub mod Frontier
pub mod Examples
pub mod Refusals
