pub mod CarriedLaws
pub mod KeptLaws
pub mod StoredLaws
pub mod ToldLaws
