pub mod Determined
pub mod ExportLaws
pub mod PartWriting
pub mod RequestLaws
