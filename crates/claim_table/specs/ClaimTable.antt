pub mod BodyParts
pub mod Rows
pub mod Parts
pub mod Entries
pub mod Counts
pub mod Table
pub mod Hinted
pub mod Keeping
