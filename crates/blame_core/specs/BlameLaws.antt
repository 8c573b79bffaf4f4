-- Laws of two journals: who signed two different establishment events of one identifier and number. Definitions and lemmas; no
-- code.
pub mod Blame
pub mod Signatures
