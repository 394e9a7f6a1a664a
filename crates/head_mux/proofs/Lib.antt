pub mod Underway
pub mod Least
pub mod Order
pub mod Gapless
pub mod Queue
