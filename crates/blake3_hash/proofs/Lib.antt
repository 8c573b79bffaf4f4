pub mod EightWords
pub mod Blocks
pub mod Known
pub mod Trees
pub mod Halves
pub mod Subtrees
pub mod Bytes
pub mod Pieces
mod FourLanes
mod ByteTurns
mod Eights
