pub mod ReadDeeds
pub mod Cursors
