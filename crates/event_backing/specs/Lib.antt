pub mod Backing
pub mod Members
pub mod EventSeals
pub mod Listing
pub mod Texts
