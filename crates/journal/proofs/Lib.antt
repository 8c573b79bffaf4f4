pub mod JournalLemmas
pub mod EventRulesLemmas
