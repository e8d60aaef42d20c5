pub mod Flags
pub mod Heads
pub mod Refused
pub mod Targets
pub mod Units
