pub mod Growth
pub mod Steady
