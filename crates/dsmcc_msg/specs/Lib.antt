pub mod Message
pub mod Control
pub mod Block
pub mod Exact
pub mod View
pub mod Written
