pub mod AskLaws
pub mod HeadLaws
pub mod PlanTurns
pub mod PutLaws
pub mod ReportLaws
pub mod StepLaws
pub mod TableLaws
pub mod ToldOne
