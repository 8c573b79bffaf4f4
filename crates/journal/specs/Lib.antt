pub mod Journal
pub mod EventRules
