-- Laws of journals: how an accepted log grows, that each accepted event was ready when it came in, that each verdict was asked for;
-- and that two journals which were told the same come to the same. Definitions and lemmas; no code.
pub mod Alike
