mod Digits
mod Groups
pub mod Numbers
mod Decoded
pub mod Front
pub mod Basic
pub mod Sigs
pub mod Indexed
pub mod Figures
pub mod Dates
mod Texts
pub mod Same
mod WholeTexts
pub mod FixedKeys
