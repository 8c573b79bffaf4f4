pub mod Answered
pub mod Behind
mod Lengths
pub mod Pieces
pub mod Refused
pub mod Rests
pub mod Spelled
