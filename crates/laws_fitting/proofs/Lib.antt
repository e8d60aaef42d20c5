pub mod Deciding
pub mod Refusing
pub mod Theorems
