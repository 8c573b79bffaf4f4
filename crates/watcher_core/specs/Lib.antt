pub mod Evidence
pub mod Named
pub mod Writing
