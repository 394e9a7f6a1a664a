pub mod InBankLemmas
pub mod KeptLaws
pub mod LeavingLaws
pub mod RamLemmas
pub mod TextLaws
