pub mod Progress
pub mod Pieces
pub mod Closes
pub mod Converts
