pub mod PlainRows
pub mod Naming
