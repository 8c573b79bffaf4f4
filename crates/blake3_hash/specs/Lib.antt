pub mod Compression
pub mod Chunk
pub mod Lanes
pub mod Tree
pub mod Stack
pub mod Hasher
