pub mod Checks
pub mod Stores
