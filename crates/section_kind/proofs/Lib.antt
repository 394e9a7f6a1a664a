mod Heads
pub mod NoKind
mod Reading
