pub mod Emulated
