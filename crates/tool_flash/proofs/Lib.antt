mod BlankLemmas
mod FormatLemmas
mod MigrateLemmas
pub mod StatusLaws
