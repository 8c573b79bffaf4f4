mod Faultless
pub mod Answered
pub mod Keys
pub mod Prefixes
pub mod Shapes
