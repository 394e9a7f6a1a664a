pub mod Pids
pub mod Tables
pub mod Times
pub mod Exact
pub mod Views
pub mod Written
