pub mod Blocks
pub mod Control
pub mod GroupFiles
pub mod Notice
pub mod Refusal
pub mod Sections
pub mod Signals
pub mod WellMade
