pub mod Standard
pub mod Rehearsal
pub mod Verdicts
pub mod Asked
pub mod Doors
pub mod Memory
pub mod Shown
