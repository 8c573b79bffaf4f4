pub mod Moments
pub mod Replays
pub mod Steps
