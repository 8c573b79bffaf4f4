pub mod ReceiptTexts
pub mod Numbers
pub mod Owns
pub mod Signings
pub mod Living
pub mod LiveStates
pub mod Reasons
pub mod FateSteps
