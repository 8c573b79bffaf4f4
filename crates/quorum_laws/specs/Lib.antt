pub mod Histories
pub mod Backing
pub mod Agreement
