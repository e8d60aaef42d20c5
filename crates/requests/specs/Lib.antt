pub mod Judge
pub mod Parts
pub mod Requests
pub mod Running
pub mod Trying
