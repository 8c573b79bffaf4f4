pub mod Searching
pub mod Filters
pub mod KeyPlaces
pub mod ChangedPlaces
pub mod Added
pub mod Supported
