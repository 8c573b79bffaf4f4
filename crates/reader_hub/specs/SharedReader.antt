pub mod Steps
pub mod Asks
pub mod Offers
pub mod Taken
pub mod Takers
pub mod ReadsOne
pub mod Readers
