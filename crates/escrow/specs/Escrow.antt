pub mod Escrow
pub mod Tables
