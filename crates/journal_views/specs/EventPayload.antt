pub mod Kept
pub mod Holding
pub mod Payloads
pub mod Steps
