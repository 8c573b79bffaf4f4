pub mod Differing
pub mod Bodies
pub mod Cuts
pub mod Living
pub mod Numbers
pub mod Orders
pub mod Rivals
