pub mod Format
pub mod Exact
pub mod Inside
pub mod Number
pub mod Items
pub mod Read
