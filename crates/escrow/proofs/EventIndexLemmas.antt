pub mod Orders
pub mod Rows
pub mod Lookups
pub mod Same
