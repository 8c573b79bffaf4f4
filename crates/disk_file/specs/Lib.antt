pub mod Calls
pub mod Memory
pub mod Untold
