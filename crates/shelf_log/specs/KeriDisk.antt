pub mod Calls
pub mod Images
pub mod Laws
pub mod Memory
pub mod Replay
pub mod Shapes
