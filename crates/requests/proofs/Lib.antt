pub mod Joining
pub mod KindLaws
pub mod PartLaws
pub mod PartRuns
pub mod RunLaws
pub mod Steps
pub mod TryLaws
