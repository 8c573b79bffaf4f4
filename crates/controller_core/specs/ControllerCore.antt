pub mod Plans
pub mod Slots
pub mod Messages
pub mod Refusals
pub mod LastNumbers
pub mod Signings
pub mod Signing
pub mod Answers
