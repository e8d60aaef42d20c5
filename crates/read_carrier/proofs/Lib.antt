pub mod CarrierLaws
pub mod KindLaws
pub mod MessageLaws
pub mod MessageOne
pub mod OneMeaning
pub mod TrueLength
