pub mod Boxes
pub mod Fetching
pub mod Shelves
