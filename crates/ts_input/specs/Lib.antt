pub mod Input
pub mod Packets
pub mod Puts
pub mod SoFar
