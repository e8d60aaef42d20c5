pub mod AreaTables
pub mod CaptionLaws
pub mod DeskLaws
pub mod LineDigits
pub mod NameLaws
pub mod RowAnswers
pub mod RowsDetermined
pub mod TextCopies
