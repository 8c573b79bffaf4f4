pub mod LogMakerLemmas
pub mod ControllerCoreLemmas
pub mod PlanTextLemmas
