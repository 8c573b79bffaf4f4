pub mod JournalLaws
pub mod EventPayload
pub mod JournalViews
