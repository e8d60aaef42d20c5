pub mod MarkedHold
pub mod PlanRows
pub mod TakenRows
pub mod WritingRows
