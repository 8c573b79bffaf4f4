pub mod Values
pub mod Parts
pub mod Digested
pub mod Places
pub mod Whole
pub mod Keeping
pub mod Crosses
