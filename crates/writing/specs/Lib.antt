pub mod Canonical
pub mod Carrier
pub mod Fields
pub mod Ranges
pub mod Bounds
pub mod Settings
pub mod Writing
