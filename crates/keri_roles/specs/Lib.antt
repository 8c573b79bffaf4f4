pub mod ItemConversion
pub mod PlanAnswer
pub mod CoreRoles
pub mod KeriRoles
