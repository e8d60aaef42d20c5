pub mod Called
pub mod Sent
