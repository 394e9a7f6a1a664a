pub mod Undeceived
pub mod Received
pub mod Planned
pub mod OneOf
