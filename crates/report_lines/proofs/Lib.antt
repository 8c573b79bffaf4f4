mod ConflictWords
pub mod Ordered
pub mod Listing
pub mod Waits
pub mod Entries
pub mod Chosen
pub mod LogGrowth
pub mod LogLines
pub mod LiveNumbers
pub mod ConflictLines
