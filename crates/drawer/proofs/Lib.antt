pub mod Passing
pub mod Bytes
pub mod Joining
pub mod Asking
pub mod Pairing
pub mod Turning
pub mod Answers
