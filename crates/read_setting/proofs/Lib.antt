pub mod SettingLaws
pub mod Theorems
