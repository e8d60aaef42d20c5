pub mod DeskBits
pub mod DeskLaws
