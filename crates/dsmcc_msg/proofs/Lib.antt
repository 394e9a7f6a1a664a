pub mod Back
pub mod Few
pub mod Reading
pub mod Exact
pub mod RowLaws
