pub mod Hex
pub mod Utf8
