pub mod Accident
pub mod Called
pub mod Entries
