pub mod Airing
pub mod Does
pub mod Held
pub mod Refusals
