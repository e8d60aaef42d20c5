pub mod FrameLaws
pub mod RecordLaws
pub mod TakenLaws
pub mod LogLaws
pub mod AreaLaws
pub mod AreaOne
