pub mod Calls
pub mod Answers
pub mod Comes
pub mod Does
pub mod Following
