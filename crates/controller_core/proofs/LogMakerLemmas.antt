pub mod Rotations
pub mod Chain
pub mod Texts
pub mod Left
pub mod Sizes
pub mod Lengths
pub mod Hexadecimals
pub mod Counts
