pub mod Added
pub mod Joined
pub mod OneRequest
pub mod Twice
