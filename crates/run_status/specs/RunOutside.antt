pub mod Files
pub mod Disks
pub mod Helpers
pub mod Addresses
pub mod Shown
pub mod Makings
pub mod Memory
