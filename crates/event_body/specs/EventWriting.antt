pub mod Writable
pub mod Faults
pub mod Sealed
