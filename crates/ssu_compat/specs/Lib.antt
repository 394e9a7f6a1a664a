pub mod Compat
pub mod Exact
pub mod Match
pub mod View
pub mod Written
