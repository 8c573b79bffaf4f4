pub mod ItemConversionLemmas
pub mod PlanAnswerLemmas
pub mod CoreRolesLemmas
pub mod KeriRolesLemmas
