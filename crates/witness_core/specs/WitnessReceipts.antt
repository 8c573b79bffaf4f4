pub mod Fates
pub mod Receipts
