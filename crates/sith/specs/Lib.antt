pub mod Weights
pub mod Divisors
pub mod Clauses
pub mod Terms
pub mod Thresholds
pub mod Rules
pub mod Tests
pub mod OwnValues
