pub mod Due
pub mod Lists
pub mod Rings
pub mod Ordered
pub mod Fronts
