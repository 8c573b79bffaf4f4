pub mod Histories
pub mod Payloads
pub mod Room
pub mod Storing
pub mod Faults
pub mod Starts
