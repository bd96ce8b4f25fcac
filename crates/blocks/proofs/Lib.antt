pub mod Words
pub mod RoundTrip
mod HeadExamples
