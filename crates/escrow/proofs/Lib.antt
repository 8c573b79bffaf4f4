pub mod EventIndexLemmas
pub mod EscrowLemmas
