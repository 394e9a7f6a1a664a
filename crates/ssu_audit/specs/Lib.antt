pub mod Calls
pub mod Said
pub mod Hearing
pub mod Ending
pub mod OneImage
pub mod Filled
pub mod Kept
pub mod Standing
