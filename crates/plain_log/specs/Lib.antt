pub mod Area
pub mod Frames
pub mod Checking
