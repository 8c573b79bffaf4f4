-- The predecessor of an event, by its place in the log.
use Rattle.std.proofs.Common.{◌≡◌, ℕ, ◌+◌, ◌-◌, ◌<◌, ◌≤◌, Bool, true, false, List, length, Some, None, refl, ◌∙◌, ap, arith}
use Rattle.std.specs.Prelude.{find, position, slice_get, nat_lt, cond}
use Rattle.std.specs.List.{position_or_len}
use Rattle.std.proofs.lemmas.List.Folds.{find_at}
use Rattle.std.proofs.lemmas.Bool.{ltb-false, ltb-true}
use Rattle.std.proofs.lemmas.Option.{slice_get_past}
use Rattle.journal.proofs.JournalLemmas.Places.{some_at}
use Rattle.event_body.specs.EventBody.Events.{sn_of, is_inception}
use Rattle.key_state.specs.KeyStates.{misfit, state_behind}
use Rattle.key_state.specs.States.{State}
use Rattle.journal.specs.declared.journal.body.Body.{Body}
use Rattle.journal.specs.Journal.Logs.{precedes, predecessor, stands}
use Rattle.journal.specs.Journal.Grown.{IsGrown}
use Rattle.journal.specs.Journal.Questions.{state_before}
use Rattle.journal.proofs.JournalLemmas.Settling.{find-true}
use Rattle.claim_table.proofs.CoreLawsLemmas.Woken.{parts_of}
use Rattle.validator_core.specs.declared.tables.accepted_log.place.Place.{Place}
use Rattle.validator_core.specs.Tables.AcceptedLog.Values.{Log}
use Rattle.validator_core.specs.Tables.AcceptedLog.Cuts.{cut, IsLog}
use Rattle.validator_core.proofs.AcceptanceLemmas.Behind.{of_x, stands_behind, state_there_is}
use Rattle.std.specs.Prelude.{is_none}

-- what stands at the first place that passes is what is found
placed : {X : Type 0} (test : X → Bool) (xs : List X) (i : ℕ) → position test xs ≡ Some i → find test xs ≡ slice_get xs i
placed test xs i e = find_at test xs ∙ ap (slice_get xs) (of (nat_lt (position_or_len test xs) (length xs)) e)
  where
    of : (inside : Bool) → cond inside (Some (position_or_len test xs)) None ≡ Some i → position_or_len test xs ≡ i
    of true e = cc
    of false e = cc

beyond : {X : Type 0} (xs : List X) (i : ℕ) → nat_lt i (length xs) ≡ false → slice_get xs i ≡ None
beyond xs i h = slice_get_past xs i (ltb-false i (length xs) h)

unplaced : {X : Type 0} (test : X → Bool) (xs : List X) → position test xs ≡ None → find test xs ≡ None
unplaced test xs e = find_at test xs ∙ beyond xs (position_or_len test xs) (of (nat_lt (position_or_len test xs) (length xs)) refl e)
  where
    of : (inside : Bool) → nat_lt (position_or_len test xs) (length xs) ≡ inside → cond inside (Some (position_or_len test xs)) None ≡ None → nat_lt (position_or_len test xs) (length xs) ≡ false
    of true is e = cc
    of false is e = is

-- PREDECESSOR: none, or the event at its place
pub no_predecessor : (log : List Body) (b : Body) → position (precedes b) log ≡ None → predecessor log b ≡ None
unfolding predecessor
no_predecessor log b e = unplaced (precedes b) log e

pub record IsPredecessor (log : List Body) (b : Body) (i : ℕ) : Type 0 where
  pub body : Body
  pub at : slice_get log i ≡ Some body
  pub before : predecessor log b ≡ Some body
  pub right : precedes b body ≡ true

pub predecessor_at : (log : List Body) (b : Body) (i : ℕ) → position (precedes b) log ≡ Some i → IsPredecessor log b i
unfolding predecessor
predecessor_at log b i e =
    let inside = within (nat_lt (position_or_len (precedes b) log) (length log)) refl e in
    let x = some_at log i inside in
    let found : find (precedes b) log ≡ Some x.0 = placed (precedes b) log i e ∙ x.1 in
    record { body = x.0; at = x.1; before = found; right = find-true (precedes b) log x.0 found }
  where
    within : (inside : Bool) → nat_lt (position_or_len (precedes b) log) (length log) ≡ inside → cond inside (Some (position_or_len (precedes b) log)) None ≡ Some i → i < length log
    within true is e = (let same : position_or_len (precedes b) log ≡ i = cc in let inside = ltb-true (position_or_len (precedes b) log) (length log) is in omega (arith, inside, same))
    within false is e = cc

-- FOOTING: what the state at the predecessor's place says of the event: how many of its live events are before the event, and
-- that the event stands where it follows the state behind these
pub record IsFollowed (log : List Body) (v : Log) (b : Body) (place : ℕ) : Type 0 where
  pub state : State
  pub at : slice_get v.states place ≡ Some state
  pub above : state.est_sn ≤ sn_of b.event
  pub some : 0 < sn_of b.event - state.est_sn
  pub live : sn_of b.event - state.est_sn ≤ length state.since
  pub sn : ℕ
  pub before : state_before log b ≡ Some (cut sn state)
  pub stands_is : stands log b ≡ is_none (misfit (state_behind (sn_of b.event - state.est_sn) state) b.event)

pub followed : (log : List Body) (v : Log) → IsLog log v → IsGrown log → (b : Body) → is_inception b.event ≡ false → (i : ℕ) → position (precedes b) log ≡ Some i
    → (p : Place) → slice_get v.places i ≡ Some p → IsFollowed log v b p.state
followed log v is grown b other i e p pl =
    let x = predecessor_at log b i e in
    let s = of_x log v is grown i x.body p x.at pl b x.before in
    let next = (parts_of b x.body x.right).1 in
    let count : sn_of x.body.event - s.state.est_sn + 1 ≡ sn_of b.event - s.state.est_sn = omega (arith, next, s.from_est) in
    record {
      state = s.state;
      at = s.at;
      above = omega (arith, next, s.from_est);
      some = omega (arith, next, s.from_est);
      live = omega (arith, next, s.from_est, s.live);
      sn = sn_of x.body.event;
      before = state_there_is log v is grown i x.body p x.at pl b x.before;
      stands_is = stands_behind log v is grown i x.body p x.at pl b x.before other ∙ ap (λ n. is_none (misfit (state_behind n s.state) b.event)) count;
    }
