pub mod TablesLemmas
pub mod AcceptanceLemmas
pub mod TableChangesLemmas
pub mod ValidatorCoreLemmas
