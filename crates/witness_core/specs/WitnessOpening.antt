pub mod Answers
pub mod Disks
pub mod Found
pub mod Lines
pub mod Names
pub mod Opening
pub mod Ways
