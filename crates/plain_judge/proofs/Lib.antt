pub mod JudgeLaws
pub mod SettingDeeds
pub mod Standings
pub mod TryLaws
pub mod WeightLaws
