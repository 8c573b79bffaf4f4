pub mod Same
pub mod States
pub mod Heads
pub mod KeyStates
pub mod Kept
pub mod Exposure
