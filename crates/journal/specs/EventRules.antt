pub mod Claims
pub mod Parts
pub mod Additions
pub mod WitnessLists
