pub mod Entries
pub mod Hashes
pub mod TextsAndNumbers
pub mod Places
