pub mod Answers
pub mod Replay
