pub mod Faults
pub mod Telling
pub mod Laws
pub mod Outcomes
