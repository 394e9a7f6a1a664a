pub mod Block
pub mod Columns
