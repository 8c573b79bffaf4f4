pub mod Hex
pub mod Keys
pub mod Adding
pub mod BackersOf
pub mod SealMembers
pub mod Listing
pub mod Held
