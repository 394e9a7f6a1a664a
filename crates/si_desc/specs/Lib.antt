pub mod Descriptors
pub mod Exact
pub mod Linkage
pub mod SsuInfo
pub mod Views
pub mod Written
