pub mod Blocks
pub mod Calls
pub mod HeadExamples
pub mod RoundTrip
