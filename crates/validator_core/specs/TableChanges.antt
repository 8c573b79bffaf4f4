pub mod Turning
pub mod ReadyEvents
pub mod Awaited
pub mod Entries
