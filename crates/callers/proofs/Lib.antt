pub mod LookupLaws
pub mod Theorems
