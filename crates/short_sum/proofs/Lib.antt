-- The facts, and the evaluated examples.
pub mod Facts
mod Examples
