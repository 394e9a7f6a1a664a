pub mod Sections
pub mod Events
pub mod Cut
pub mod Steps
pub mod Hearing
pub mod TimedSection
