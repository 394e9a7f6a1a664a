pub mod InBank
pub mod Keeping
pub mod Leaving
pub mod Outline
pub mod Ram
