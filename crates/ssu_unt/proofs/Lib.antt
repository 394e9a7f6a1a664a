pub mod AnnouncedLaws
pub mod Counting
pub mod Keeping
pub mod Spelling
pub mod Exact
