pub mod Steps
pub mod Pieces
pub mod TextPieces
