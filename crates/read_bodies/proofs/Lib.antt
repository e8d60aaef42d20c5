mod FlagLaws
mod ListLaws
mod SlotLaws
pub mod FixedLaws
