pub mod Names
pub mod Draws
pub mod Plans
pub mod Behind
pub mod Messages
pub mod Streams
pub mod Making
