-- Where the predecessor of an event stands in an accepted log there are its place and a state.
use Rattle.std.proofs.Common.{◌≡◌, ◌<◌, ◌≤◌, ◌-◌, ℕ, suc, zero, false, is_none, subst, List, [], ◌∷◌, length, Some, None, sym, ◌∙◌, arith}
use Rattle.std.specs.Prelude.{position, slice_get}
use Rattle.event_body.specs.EventBody.Events.{is_inception, sn_of}
use Rattle.key_state.specs.KeyStates.{misfit, state_behind}
use Rattle.key_state.specs.States.{State}
use Rattle.journal.specs.declared.journal.body.Body.{Body}
use Rattle.journal.specs.Journal.Logs.{precedes, stands}
use Rattle.journal.specs.Journal.Grown.{IsGrown}
use Rattle.validator_core.specs.declared.tables.accepted_log.place.Place.{Place}
use Rattle.validator_core.specs.Tables.AcceptedLog.Cuts.{IsLog}
use Rattle.validator_core.specs.Tables.AcceptedLog.Values.{Log}
use Rattle.validator_core.specs.Acceptance.Footing.{IsBehind}
use Rattle.validator_core.proofs.AcceptanceLemmas.Predecessor.{IsFollowed, followed, predecessor_at}

no_gap : {X Y : Type 0} (xs : List X) (ys : List Y) (i : ℕ) (x : X) → length ys ≡ length xs → slice_get xs i ≡ Some x → slice_get ys i ≡ None → ⊥
no_gap [] ys i x e at none = cc
no_gap (x ∷ xs) [] i y e at none = cc
no_gap (x ∷ xs) (y ∷ ys) zero z e at none = cc
no_gap (x ∷ xs) (y ∷ ys) (suc i) z e at none = let same : length ys ≡ length xs = omega (arith, e) in no_gap xs ys i z same at none

-- PLACE: there is a place
pub has_place : (log : List Body) (v : Log) → IsLog log v → (b : Body) (i : ℕ) → position (precedes b) log ≡ Some i → slice_get v.places i ≡ None → ⊥
has_place log v is b i e none = let x = predecessor_at log b i e in no_gap log v.places i x.body is.places x.at none

-- STATE: and a state
pub has_state : (log : List Body) (v : Log) → IsLog log v → IsGrown log → (b : Body) → is_inception b.event ≡ false → (i : ℕ) → position (precedes b) log ≡ Some i
    → (p : Place) → slice_get v.places i ≡ Some p → slice_get v.states p.state ≡ None → ⊥
has_state log v is grown b other i e p pl none = let f = followed log v is grown b other i e p pl in let no = sym none ∙ f.at in cc

-- ON: what the state there says of the event
module _ (log : List Body) (v : Log) (is : IsLog log v) (grown : IsGrown log) (b : Body) (other : is_inception b.event ≡ false) (i : ℕ) (e : position (precedes b) log ≡ Some i) (p : Place) (pl : slice_get v.places i ≡ Some p) (s : State) (at : slice_get v.states p.state ≡ Some s) where
  on : IsFollowed log v b p.state
  on = followed log v is grown b other i e p pl

  same : on.state ≡ s
  same = let one : Some on.state ≡ Some s = sym on.at ∙ at in cc

  pub above : s.est_sn ≤ sn_of b.event
  above = subst (λ t. t.est_sn ≤ sn_of b.event) same on.above

  pub some : 0 < sn_of b.event - s.est_sn
  some = subst (λ t. 0 < sn_of b.event - t.est_sn) same on.some

  pub live : sn_of b.event - s.est_sn ≤ length s.since
  live = subst (λ t. sn_of b.event - t.est_sn ≤ length t.since) same on.live

  pub stands_on : stands log b ≡ is_none (misfit (state_behind (sn_of b.event - s.est_sn) s) b.event)
  stands_on = subst (λ t. stands log b ≡ is_none (misfit (state_behind (sn_of b.event - t.est_sn) t) b.event)) same on.stands_is

  pub is_behind : IsBehind log v b p.state
  is_behind = record { state = on.state; at = on.at; sn = on.sn; before = on.before }
