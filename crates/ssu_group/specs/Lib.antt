pub mod Plan
pub mod Refusal
pub mod Place
pub mod Carried
pub mod Map
pub mod Lays
