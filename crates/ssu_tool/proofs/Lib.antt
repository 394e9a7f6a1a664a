pub mod SparedLemmas
pub mod SparesLemmas
