pub mod Cuts
pub mod Orders
pub mod Texts
pub mod Counted
pub mod Written
