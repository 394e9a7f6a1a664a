pub mod Does
pub mod Spared
pub mod Spares
