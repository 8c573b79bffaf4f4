-- Laws of a core that takes every event: what wakes an event, that a run over candidates settles, what supports an event, and
-- what the rows of a table of claims say of what a core was told. Definitions and lemmas; no code.
pub mod Alike
pub mod Candidates
pub mod Waking
pub mod Entries
pub mod Support
pub mod Claimed
pub mod Standing
pub mod Looks
pub mod ClaimRows
