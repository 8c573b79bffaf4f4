pub mod Domains
pub mod Inputs
pub mod Keys
pub mod Numbers
pub mod Prefixes
pub mod Table
pub mod Words
