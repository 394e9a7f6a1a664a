pub mod Load
pub mod Growing
pub mod Progress
pub mod Printed
pub mod Told
pub mod Does
