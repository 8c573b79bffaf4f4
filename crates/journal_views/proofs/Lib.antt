pub mod JournalLawsLemmas
pub mod EventPayloadLemmas
pub mod JournalViewsLemmas
