pub mod CheckLaws
pub mod JoinLaws
pub mod Joined
pub mod RequestLaws
pub mod Theorems
