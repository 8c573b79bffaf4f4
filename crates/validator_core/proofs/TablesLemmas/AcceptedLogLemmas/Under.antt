-- The states just before the events of an accepted log.
use Rattle.std.proofs.Common.{◌≡◌, ℕ, zero, suc, ◌+◌, true, false, List, [], ◌∷◌, ◌++◌, length, take, drop, Option, Some, None, refl, sym, ◌∙◌, ap, subst, inl, inr, arith}
use Rattle.std.specs.Prelude.{slice_get}
use Rattle.std.proofs.lemmas.Bool.{cases_Bool, or_parts}
use Rattle.event_body.specs.EventBody.Events.{prefix_of, sn_of, said_of, is_interaction}
use Rattle.key_state.specs.States.{State}
use Rattle.journal.specs.declared.journal.body.Body.{Body}
use Rattle.journal.specs.Journal.Grown.{IsGrown}
use Rattle.journal.specs.Journal.Logs.{before, is_in, same_body, state}
use Rattle.journal.proofs.JournalLemmas.Accepting.{same_body-refl}
use Rattle.validator_core.specs.declared.tables.accepted_log.place.Place.{Place}
use Rattle.validator_core.specs.Tables.AcceptedLog.Cuts.{AreAlike, AreBothAlike, IsLog, cut, under_at}
use Rattle.validator_core.specs.Tables.AcceptedLog.Values.{Log, with_since}
use Rattle.validator_core.proofs.TablesLemmas.AcceptedLogLemmas.Lists.{cut_at, take_one_more}
use Rattle.validator_core.proofs.TablesLemmas.AcceptedLogLemmas.StateSteps.{fits_parts, goes_onto}

-- the list before a member that isn't there before
before_at : (log : List Body) (i : ℕ) (b : Body) → slice_get log i ≡ Some b → is_in (take i log) b ≡ false → before b log ≡ take i log
unfolding before
before_at [] i b at new = cc
before_at (c ∷ log) zero b at new = let is : c ≡ b = cc in let same : same_body c b ≡ true = ap (λ c. same_body c b) is ∙ same_body-refl b in rw same refl
before_at (c ∷ log) (suc i) b at new =
    let parts = or_parts (same_body c b) (is_in (take i log) b) new in let other = parts.0 in
    let rest = before_at log i b at parts.1 in
    rw (other, rest) refl

alike_both : (o p : Option State) → o ≡ p → AreBothAlike o p
alike_both None None e = tt
alike_both None (Some t) e = cc
alike_both (Some s) None e = cc
alike_both (Some s) (Some t) e = let is : s ≡ t = cc in ap (λ (s : State). record s { est_sn = t.est_sn; since = t.since }) is

module _ (log : List Body) (v : Log) (is : IsLog log v) (grown : IsGrown log) (i : ℕ) (b : Body) (p : Place) (at : slice_get log i ≡ Some b) (pl : slice_get v.places i ≡ Some p) where
  -- FRONT: what was accepted before it
  pub front_is : before b log ≡ take i log
  front_is = before_at log i b at (fits_parts (take i log) b (grown (take i log) (drop (suc i) log) b (cut_at log i b at))).new

  -- ONTO: an interaction went onto the state at its place, but for the live events
  onto : is_interaction b.event ≡ true → AreBothAlike (slice_get v.states p.state) (state (take i log) (prefix_of b.event))
  onto going =
      let f = fits_parts (take i log) b (grown (take i log) (drop (suc i) log) b (cut_at log i b at)) in
      let goes = goes_onto (state (take i log) (prefix_of b.event)) b.event f.taken going in
      let h = is.behind i b p at pl in
      let one : i + 1 ≡ suc i = omega arith in
      let front : take (i + 1) log ≡ take i log ++ b ∷ [] = ap (λ n. take n log) one ∙ take_one_more log i b at in
      let both : Some (cut (sn_of b.event) h.state) ≡ Some (with_since (said_of b.event) goes.0) = sym h.is.then_is ∙ ap (λ xs. state xs (prefix_of b.event)) front ∙ f.step ∙ goes.1.now in
      let same : cut (sn_of b.event) h.state ≡ with_since (said_of b.event) goes.0 = cc in
      let alike : AreAlike h.state goes.0 = ap (λ (s : State). record s { est_sn = goes.0.est_sn; since = goes.0.since }) same in
      let here = h.at in let was = goes.1.was in
      rw (here, was) alike

  -- UNDER: the state of the place, or the last one before it, is alike to that just before the event
  pub under_alike : AreBothAlike (under_at v.states b.event (Some p)) (state (before b log) (prefix_of b.event))
  under_alike = subst (λ xs. AreBothAlike (under_at v.states b.event (Some p)) (state xs (prefix_of b.event))) (sym front_is) (elim (cases_Bool (is_interaction b.event)) [
    | inl going ↦ rw going (onto going)
    | inr sets ↦ (let same = is.under i b p at pl sets in rw sets (alike_both _ _ same))
  ])

no_gap : {X Y : Type 0} (xs : List X) (ys : List Y) (i : ℕ) (x : X) → length ys ≡ length xs → slice_get xs i ≡ Some x → slice_get ys i ≡ None → ⊥
no_gap [] ys i x e at none = cc
no_gap (x ∷ xs) [] i y e at none = cc
no_gap (x ∷ xs) (y ∷ ys) zero z e at none = cc
no_gap (x ∷ xs) (y ∷ ys) (suc i) z e at none = let same : length ys ≡ length xs = omega (arith, e) in no_gap xs ys i z same at none

-- AT: each event of the log has a place
pub under_alike_at : (log : List Body) (v : Log) → IsLog log v → IsGrown log → (i : ℕ) (b : Body) → slice_get log i ≡ Some b
    → AreBothAlike (under_at v.states b.event (slice_get v.places i)) (state (before b log) (prefix_of b.event))
under_alike_at log v is grown i b at = by (slice_get v.places i) refl
  where
    by : (o : Option Place) → slice_get v.places i ≡ o → AreBothAlike (under_at v.states b.event o) (state (before b log) (prefix_of b.event))
    by None none = absurd (no_gap log v.places i b is.places at none)
    by (Some p) pl = under_alike log v is grown i b p at pl
