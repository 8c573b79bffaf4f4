pub mod Messages
pub mod Reading
pub mod Signers
pub mod Came
pub mod GoodClaims
pub mod Exported
pub mod Retelling
pub mod Export
