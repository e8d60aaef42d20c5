pub mod AnswerLaws
pub mod FrequencyLaws
pub mod FrequencyTheorems
pub mod NumberLaws
pub mod Theorems
