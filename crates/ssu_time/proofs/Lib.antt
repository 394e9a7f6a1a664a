pub mod DayLemmas
pub mod OfTextLemmas
pub mod TextLemmas
pub mod TimeTextLemmas
pub mod UtcFieldLaws
pub mod UtcLemmas
pub mod Exact
