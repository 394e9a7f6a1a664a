pub mod Values
pub mod Said
pub mod Levels
pub mod Next
pub mod Standing
