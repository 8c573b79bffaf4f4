pub mod ListsLemmas
pub mod KeriSpecsLemmas
