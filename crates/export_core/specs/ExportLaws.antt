pub mod Export
pub mod Families
pub mod FamilyQuestions
pub mod FamilyReport
