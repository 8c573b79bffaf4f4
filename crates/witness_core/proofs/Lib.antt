pub mod WitnessReceiptsLemmas
pub mod WitnessStoreLemmas
pub mod WitnessCoreLemmas
pub mod WitnessOpeningLemmas
pub mod WitnessLinkLemmas
pub mod WitnessRoleLemmas
