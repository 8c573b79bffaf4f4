pub mod CoreLawsLemmas
pub mod ClaimTableLemmas
