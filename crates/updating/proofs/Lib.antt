pub mod BehindHash
pub mod CheckLaws
pub mod PartRoom
pub mod Parts
pub mod ProposeLaws
pub mod SlotsRefused
pub mod Theorems
