pub mod Histories
pub mod Known
pub mod Locks
pub mod Passes
pub mod Rule
pub mod Steps
pub mod Performs
