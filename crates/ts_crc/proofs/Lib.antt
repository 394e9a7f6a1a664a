mod Sixteen
mod Entries
mod Linear
pub mod CrcLaws
