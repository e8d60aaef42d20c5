pub mod BodyLaws
pub mod TypeTableLaws
