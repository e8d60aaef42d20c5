pub mod PackedReports
pub mod PackedValues
pub mod Packing
