pub mod Words
pub mod Lines
pub mod Report
pub mod Logs
pub mod Rows
pub mod Conflicts
