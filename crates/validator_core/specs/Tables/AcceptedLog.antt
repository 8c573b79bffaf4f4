pub mod Values
pub mod Hints
pub mod Cuts
