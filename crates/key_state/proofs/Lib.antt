pub mod Same
mod Spelled
pub mod WitnessLists
pub mod NoMisfit
pub mod Behind
pub mod Numbers
pub mod Among
