pub mod Lines
pub mod Entries
pub mod Sheets
pub mod Promises
pub mod Plans
pub mod Reading
pub mod Drafts
pub mod Makeable
