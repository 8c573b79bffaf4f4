pub mod CoreLaws
pub mod ClaimTable
