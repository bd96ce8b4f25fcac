pub mod Files
pub mod HintRecorder
pub mod Index
pub mod Lent
pub mod Loans
pub mod Recorder
pub mod Tables
