pub mod MissingLaws
pub mod StatusLaws
