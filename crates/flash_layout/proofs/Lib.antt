pub mod JournalLemmas
pub mod LaidLemmas
pub mod PairsLemmas
pub mod PartLemmas
pub mod Places
