pub mod AskLaws
pub mod DigitLaws
pub mod EntryLaws
pub mod FixedLaws
pub mod FlagLaws
pub mod Theorems
pub mod TuningLaws
