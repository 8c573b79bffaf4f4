pub mod Fronts
pub mod Numbers
pub mod Strings
pub mod Spelling
pub mod Reading
