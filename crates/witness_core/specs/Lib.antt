pub mod WitnessReceipts
pub mod WitnessStore
pub mod WitnessCore
pub mod WitnessOpening
pub mod WitnessLink
pub mod WitnessRole
