pub mod ImageLaws
pub mod LengthLaws
