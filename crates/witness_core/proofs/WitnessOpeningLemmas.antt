pub mod Facts
pub mod Makings
pub mod Openings
