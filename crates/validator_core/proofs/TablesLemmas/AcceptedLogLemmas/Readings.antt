-- What is known of a state that was read.
use Rattle.std.proofs.Common.{◌≡◌, ℕ, ◌<◌, true, List, length, Option, Some, None, refl, OnOk, Ok, Err, Result, arith}
use Rattle.std.specs.Prelude.{slice_get}
use Rattle.std.proofs.lemmas.Bool.Decides.{nat_tests}
use Rattle.std.proofs.lemmas.Option.{slice_get_within}
use Rattle.key_state.specs.States.{State}
use Rattle.validator_core.specs.Tables.AcceptedLog.Values.{has_more}

pub under_ok : {A E P Q : Type 0} (r : Result A E) → OnOk r P → (P → Q) → OnOk r Q
under_ok (Ok x) p f = f p
under_ok (Err e) p f = p

-- a state that has more is there
pub record HasMore (states : List State) (k : ℕ) : Type 0 where
  pub state : State
  pub at : slice_get states k ≡ Some state
  pub more : 1 < length state.since
  pub within : k < length states

pub more_there : (states : List State) (k : ℕ) → has_more (slice_get states k) ≡ true → HasMore states k
more_there states k h = by (slice_get states k) refl h
  where
    by : (o : Option State) → slice_get states k ≡ o → has_more o ≡ true → HasMore states k
    by None e h = cc
    by (Some s) e h = record { state = s; at = e; more = grind (arith, nat_tests, h); within = slice_get_within states k s e }
