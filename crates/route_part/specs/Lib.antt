pub mod Part
pub mod Said
