pub mod Versions
pub mod Maps
pub mod Forms
pub mod Strings
pub mod Fronts
pub mod Bodies
pub mod Faults
pub mod Objects
