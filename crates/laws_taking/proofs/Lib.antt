pub mod Alike
pub mod Demand
pub mod Determined
pub mod JudgeLaws
pub mod Judging
pub mod StandardReply
pub mod Theorems
