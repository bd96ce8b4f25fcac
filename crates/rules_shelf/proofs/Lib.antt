pub mod Laws
pub mod ShelfExamples
