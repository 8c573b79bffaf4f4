pub mod Tables
pub mod Acceptance
pub mod TableChanges
pub mod ValidatorCore
