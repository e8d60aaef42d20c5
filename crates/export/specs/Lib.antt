pub mod Exportable
pub mod Exported
pub mod Exporting
pub mod PartWriters
