pub mod Appending
pub mod Crosses
pub mod Joins
pub mod Turns
