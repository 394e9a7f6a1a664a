pub mod InputLemmas
pub mod PacketLemmas
pub mod Pieces
pub mod Runs
