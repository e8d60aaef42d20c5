pub mod ReplyLaws
pub mod AskedLaws
pub mod LadderLaws
pub mod Theorems
