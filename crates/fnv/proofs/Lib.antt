-- The laws of the hash, and what the proofs of the functions use.
pub mod Hash
mod Vectors
