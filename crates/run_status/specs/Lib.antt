pub mod RunOutside
pub mod MessageFeed
pub mod DoorLinks
pub mod RunStatus
pub mod RunRecord
