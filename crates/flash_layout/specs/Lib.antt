pub mod Journal
pub mod Layout
pub mod Pairs
pub mod Shape
pub mod Slots
