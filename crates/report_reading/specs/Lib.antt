pub mod Readers
pub mod Reading
