pub mod Broadcasts
pub mod Making
pub mod Packets
