pub mod Answers
pub mod Blank
pub mod Durable
pub mod Format
pub mod Leftover
pub mod OnDisk
pub mod Scans
