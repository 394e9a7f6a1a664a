pub mod Announced
pub mod Descriptors
pub mod Exact
pub mod Table
pub mod Targeting
pub mod Views
pub mod Written
