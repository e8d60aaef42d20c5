pub mod SettingAt
