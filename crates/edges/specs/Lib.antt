pub mod Acts
pub mod Ending
pub mod Memory
pub mod Over
pub mod Room
