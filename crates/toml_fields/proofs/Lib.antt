mod Documents
pub mod Arrays
