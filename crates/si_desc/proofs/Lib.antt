pub mod Puts
pub mod RowLaws
pub mod Exact
