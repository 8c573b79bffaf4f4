pub mod JsonValues
pub mod Pushes
pub mod Read
pub mod Spelled
pub mod Digested
pub mod OwnDigest
