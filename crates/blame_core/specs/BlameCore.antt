pub mod Blames
pub mod Establishments
pub mod NamedEntries
pub mod FirstSignatures
pub mod Signatures
pub mod Culprits
pub mod Rivals
pub mod Lines
