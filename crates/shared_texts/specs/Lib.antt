pub mod Moves
pub mod Regions
pub mod Rooms
pub mod Shared
