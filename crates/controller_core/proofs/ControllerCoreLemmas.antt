pub mod Seals
pub mod LastNumbers
pub mod Asking
pub mod Enough
pub mod Signing
pub mod Zipped
pub mod Keys
