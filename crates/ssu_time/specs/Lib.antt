pub mod Calendar
pub mod CivilText
pub mod Opening
pub mod TimeText
pub mod UtcField
pub mod UtcTime
