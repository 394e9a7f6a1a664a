pub mod Aired
pub mod Passing
pub mod ScriptText
pub mod Scripts
