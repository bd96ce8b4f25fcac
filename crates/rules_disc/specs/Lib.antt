pub mod Disc
pub mod DiscExamples
