pub mod Shelf
pub mod ShelfExamples
