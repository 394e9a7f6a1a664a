pub mod FileLemmas
pub mod GroupLemmas
pub mod MentionLemmas
