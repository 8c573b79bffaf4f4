-- What a key state holds (KERI, key state).
use Rattle.std.specs.Prelude.{ℕ, ◌+◌, ◌^◌, ◌<◌, ◌≤◌, List, length, Option, IsTrue}
use Rattle.cesr_codes.specs.declared.digest.Digest.{Digest}
use Rattle.cesr_codes.specs.declared.key.Key.{Key}
use Rattle.cesr_codes.specs.declared.prefix.Prefix.{Prefix}
use Rattle.sith.specs.declared.threshold.Threshold.{Threshold}
use Rattle.sith.specs.Rules.{IsReadFor}
use Rattle.key_state.specs.Same.{are_witnesses}

-- the identifier, the number of the last establishment event, the digests of the live events from it to the head,
-- the signing keys with their threshold, the commitments to the next keys with theirs, the witnesses and how many of
-- them must agree, the traits, and the delegator, where there is one
pub record State : Type 0 where
  pub prefix : Prefix
  pub est_sn : ℕ
  pub since : List Digest
  pub keys : List Key
  pub kt : Threshold
  pub next : List Digest
  pub nt : Threshold
  pub list : List Key
  pub toad : ℕ
  pub traits : List (List ℕ)
  pub delegator : Option Prefix

-- what is true of each state that events make
pub record IsState (s : State) : Type 0 where
  pub kt_read : IsReadFor s.kt (length s.keys)
  pub nt_read : IsReadFor s.nt (length s.next)
  pub few_keys : length s.keys ≤ 64
  pub few_next : length s.next ≤ 64
  pub few_witnesses : length s.list ≤ 64
  pub witnesses : IsTrue (are_witnesses s.list)
  pub since_some : 0 < length s.since
  pub sn_held : s.est_sn + length s.since ≤ 2 ^ 64
