pub mod BankLen
pub mod Levels
pub mod Software
