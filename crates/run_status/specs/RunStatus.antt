pub mod Status
pub mod Readers
pub mod RunEnds
