pub mod Acting
pub mod Ends
pub mod Fitting
pub mod Histories
pub mod SeatSteps
pub mod Sums
pub mod TurnSteps
