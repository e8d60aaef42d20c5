pub mod ByKey
pub mod Reached
