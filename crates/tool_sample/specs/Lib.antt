pub mod Does
pub mod Sample
