-- The states just behind the events of an accepted log.
use Rattle.std.proofs.Common.{◌≡◌, ℕ, zero, suc, ◌+◌, ◌-◌, ◌≤◌, length, true, false, List, [], ◌∷◌, take, drop, Some, refl, ◌∙◌, ap, arith}
use Rattle.std.specs.Prelude.{slice_get}
use Rattle.std.proofs.lemmas.Bool.{or_parts}
use Rattle.std.proofs.lemmas.Option.{slice_get_within}
use Rattle.event_body.specs.EventBody.Events.{prefix_of, sn_of, said_of}
use Rattle.key_state.specs.States.{State}
use Rattle.journal.specs.declared.journal.body.Body.{Body}
use Rattle.journal.specs.Journal.Grown.{IsGrown}
use Rattle.journal.specs.Journal.Logs.{is_in, predecessor, same_body, state, state_at, state_behind, up_to}
use Rattle.journal.specs.Journal.Questions.{state_before}
use Rattle.journal.proofs.JournalLemmas.Accepting.{same_body-refl}
use Rattle.validator_core.specs.declared.tables.accepted_log.place.Place.{Place}
use Rattle.validator_core.specs.Tables.AcceptedLog.Cuts.{AreAlike, IsLog, cut}
use Rattle.validator_core.specs.Tables.AcceptedLog.Values.{Log, last_from, last_of, last_place, nothing, state_there}
use Rattle.validator_core.proofs.TablesLemmas.AcceptedLogLemmas.Lists.{cut_at}
use Rattle.validator_core.proofs.TablesLemmas.AcceptedLogLemmas.StateSteps.{fits_parts, live_at}

-- NOTHING: no events
pub nothing_is_log : IsLog [] nothing
unfolding state last_from
nothing_is_log = record { numbers = refl; places = refl; current = λ prefix. refl; behind = λ i b p at pl. cc; under = λ i b p at pl sets. cc }

-- the list up to a member that isn't there before
up_to_at : (log : List Body) (i : ℕ) (b : Body) → slice_get log i ≡ Some b → is_in (take i log) b ≡ false → up_to b log ≡ take (suc i) log
unfolding up_to
up_to_at [] i b at new = cc
up_to_at (c ∷ log) zero b at new = let is : c ≡ b = cc in let same : same_body c b ≡ true = ap (λ c. same_body c b) is ∙ same_body-refl b in rw same refl
up_to_at (c ∷ log) (suc i) b at new =
    let parts = or_parts (same_body c b) (is_in (take i log) b) new in let other = parts.0 in
    let rest = up_to_at log i b at parts.1 in
    rw (other, rest) refl

-- the state of an event: where it stands, the event's place among its live events, and that the state just behind the event
-- is this one, cut
pub record StateOf (log : List Body) (v : Log) (b : Body) (place : ℕ) : Type 0 where
  pub state : State
  pub at : slice_get v.states place ≡ Some state
  pub its : state.prefix ≡ prefix_of b.event
  pub from_est : state.est_sn ≤ sn_of b.event
  pub live : sn_of b.event - state.est_sn + 1 ≤ length state.since
  pub then_is : state_at log b ≡ Some (cut (sn_of b.event) state)

module _ (log : List Body) (v : Log) (is : IsLog log v) (grown : IsGrown log) (i : ℕ) (b : Body) (p : Place) (at : slice_get log i ≡ Some b) (pl : slice_get v.places i ≡ Some p) where
  -- BEHIND: the state just behind an accepted event is that of its place, with the live events up to it
  pub state_of : StateOf log v b p.state
  state_of =
      let h = is.behind i b p at pl in
      let new = (fits_parts (take i log) b (grown (take i log) (drop (suc i) log) b (cut_at log i b at))).new in
      let front : up_to b log ≡ take (i + 1) log = up_to_at log i b at new ∙ ap (λ n. take n log) one in
      let live = live_at h.state (sn_of b.event) (said_of b.event) h.is.live in
      let within = slice_get_within h.state.since (sn_of b.event - h.state.est_sn) (said_of b.event) live.1 in
      record { state = h.state; at = h.at; its = h.is.prefix; from_est = live.0; live = omega (arith, within); then_is = ap (λ xs. state xs (prefix_of b.event)) front ∙ h.is.then_is }
    where
      one : suc i ≡ i + 1
      one = omega arith

  -- BEFORE: and so is the state that a body follows whose predecessor the event is
  pub state_followed : (x : Body) → predecessor log x ≡ Some b → state_before log x ≡ Some (cut (sn_of b.event) state_of.state)
  state_followed x before = ap (state_behind log) before ∙ state_of.then_is

  -- CURRENT: where the place has the current state of the identifier, that differs from it in the live events alone
  pub current_alike : last_place (prefix_of b.event) v.states ≡ Some p.state → (last_of (prefix_of b.event) v.states ≡ Some state_of.state) × AreAlike (cut (sn_of b.event) state_of.state) state_of.state
  current_alike last = (ap (state_there v.states) last ∙ state_of.at, refl)
