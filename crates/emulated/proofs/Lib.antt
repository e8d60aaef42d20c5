pub mod Matching
pub mod Outcomes
pub mod Rows
pub mod Theorems
