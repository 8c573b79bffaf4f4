pub mod Digests
pub mod Held
pub mod Lists
pub mod Tables
pub mod Crosses
