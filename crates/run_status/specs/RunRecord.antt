pub mod NoJournal
pub mod Run
pub mod Seen
