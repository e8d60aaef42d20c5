pub mod Moved
pub mod OrderMatters
pub mod Theorems
