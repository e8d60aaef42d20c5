pub mod Checking
pub mod Joining
pub mod Joins
pub mod Told
pub mod Twice
