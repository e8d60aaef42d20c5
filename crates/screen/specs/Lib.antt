pub mod Areas
pub mod Naming
pub mod Rows
pub mod Screen
pub mod Steps
