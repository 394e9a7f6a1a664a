pub mod Cells
pub mod Rows
pub mod InsideLaws
pub mod ItemLaws
pub mod Laws
pub mod Numbers
