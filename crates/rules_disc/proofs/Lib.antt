pub mod DiscExamples
