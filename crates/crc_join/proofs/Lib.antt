mod Linear
mod Back
mod Sums
pub mod JoinLaws
