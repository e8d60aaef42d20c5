pub mod StoreLaws
pub mod Theorems
