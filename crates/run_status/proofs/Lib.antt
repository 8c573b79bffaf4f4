pub mod MessageFeedLemmas
pub mod DoorLinksLemmas
pub mod RunStatusLemmas
pub mod RunRecordLemmas
