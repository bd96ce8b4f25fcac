pub mod HintRecorder
pub mod Steps
