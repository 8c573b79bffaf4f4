pub mod Digests
pub mod Hashers
pub mod Replaced
