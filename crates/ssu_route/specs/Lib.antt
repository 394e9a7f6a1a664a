pub mod Offers
pub mod Choosing
pub mod Windows
pub mod Queries
pub mod Kept
pub mod Route
