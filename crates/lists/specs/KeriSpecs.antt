-- Definitions that the contracts of several crates cite. It has no code.
pub mod Base64
pub mod Causes
pub mod Shown
pub mod Hex
