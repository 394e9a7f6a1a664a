pub mod Answers
pub mod Blank
pub mod Boots
pub mod Formatting
pub mod Migrating
pub mod Does
