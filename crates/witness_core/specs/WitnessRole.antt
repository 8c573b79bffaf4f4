pub mod ServedFile
pub mod ServedLinks
pub mod Views
pub mod Witnessed
