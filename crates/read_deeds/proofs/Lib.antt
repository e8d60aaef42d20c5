pub mod BeginLaws
pub mod CodeLaws
pub mod CursorLaws
pub mod EntryLaws
