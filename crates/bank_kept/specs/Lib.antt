pub mod Bank
pub mod Contents
pub mod Leaving
