pub mod LayoutLaws
pub mod PlaceLaws
pub mod MapLaws
pub mod Filling
pub mod SamePlans
