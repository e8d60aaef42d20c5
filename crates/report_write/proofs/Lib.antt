pub mod FixedItems
pub mod HeadLaws
pub mod ListedItems
pub mod SlotLaws
