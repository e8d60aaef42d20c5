pub mod TurnLaws
pub mod WeighingLaws
pub mod WeightLaws
