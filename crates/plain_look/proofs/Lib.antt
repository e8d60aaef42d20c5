pub mod LookLaws
pub mod RowLooks
