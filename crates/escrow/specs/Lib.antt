pub mod EventIndex
pub mod Escrow
