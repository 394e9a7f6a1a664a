pub mod LongLaws
pub mod RightLaws
pub mod RightForm
pub mod Exact
