pub mod Long
pub mod Section
pub mod Written
