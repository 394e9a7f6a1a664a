pub mod AuditLines
pub mod Digits
pub mod LevelLines
pub mod Lines
pub mod SectionLine
