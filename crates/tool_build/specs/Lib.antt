pub mod Building
pub mod Does
pub mod Held
