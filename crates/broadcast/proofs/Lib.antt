pub mod OpeningLaws
pub mod PacketLaws
pub mod PlannedLaws
pub mod CameLaws
pub mod ChainLaws
pub mod AiredLaws
