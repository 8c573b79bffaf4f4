-- Why an event waits, step by step.
use Rattle.std.proofs.Common.{◌≡◌, ℕ, Bool, true, false, not, ◌&&◌, ◌||◌, List, Option, Some, None, is_some, is_none, refl, sym, ◌∙◌, ap, inl, inr}
use Rattle.std.specs.Prelude.{position}
use Rattle.std.proofs.lemmas.Bool.{or_parts, or_cases, not-false}
use Rattle.event_body.specs.EventBody.Events.{prefix_of, is_inception, is_receipt}
use Rattle.key_state.specs.States.{State}
use Rattle.journal.specs.declared.journal.body.Body.{Body}
use Rattle.journal.specs.declared.journal.mode.Mode.{Mode}
use Rattle.journal.specs.declared.journal.why.Why.TheVariants.{Never, Predecessor}
use Rattle.journal.specs.Journal.Logs.{is_in, state, takes, precedes, predecessor, stands}
use Rattle.journal.specs.Journal.History.{Told}
use Rattle.journal.specs.Journal.Waiting.{is_lost, reason_under, why_waits}
use Rattle.claim_table.specs.CoreLaws.Waking.{is_there, is_waiting}
use Rattle.validator_core.proofs.AcceptanceLemmas.Predecessor.{no_predecessor, predecessor_at}
use Rattle.validator_core.specs.Acceptance.Wants.{wants}

-- PREDECESSOR: there is one where it has a place
pub has_predecessor : (log : List Body) (b : Body) (o : Option ℕ) → o ≡ position (precedes b) log → is_some o ≡ is_some (predecessor log b)
has_predecessor log b None e = ap is_some (sym (no_predecessor log b (sym e)))
has_predecessor log b (Some i) e = ap is_some (sym (predecessor_at log b i (sym e)).before)

turned : (p q : Bool) → not (not p && not q) ≡ (p || q)
turned true q = refl
turned false true = refl
turned false false = refl

module _ (mode : Mode) (told : List Told) (log : List Body) (b : Body) where
  -- nothing where it doesn't wait
  pub nothing_waits : is_waiting log b ≡ false → why_waits mode told log b ≡ None
  unfolding why_waits
  nothing_waits waits = let out = sym (turned (is_receipt b.event) (is_in log b)) ∙ ap not waits in rw out refl

  pub event_waits : (s : Option State) → s ≡ state log (prefix_of b.event) → is_waiting log b ≡ true → why_waits mode told log b ≡ reason_under mode told log s b
  unfolding why_waits
  event_waits s current waits = let out = sym (turned (is_receipt b.event) (is_in log b)) ∙ ap not waits in rw (out, ← current) refl

  -- the first reasons
  pub lost_waits : (s : Option State) → is_lost mode log s b ≡ true → reason_under mode told log s b ≡ Some Never
  lost_waits s lost = rw lost refl

  pub behind_waits : (s : Option State) → is_lost mode log s b ≡ false → is_there log b ≡ false → reason_under mode told log s b ≡ Some Predecessor
  behind_waits s lost none = let no = missing (is_inception b.event) (predecessor log b) none in rw (lost, no) refl
    where
      missing : {X : Type 0} (first : Bool) (o : Option X) → (first || is_some o) ≡ false → (not first && is_none o) ≡ true
      missing true o h = cc
      missing false None h = refl
      missing false (Some x) h = cc

  -- the others, where the current state takes it
  pub there_wants : (s : Option State) → is_lost mode log s b ≡ false → is_there log b ≡ true → reason_under mode told log s b ≡ wants mode told log s b
  there_wants s lost there = let no = here (is_inception b.event) (predecessor log b) there in rw (lost, no) refl
    where
      here : {X : Type 0} (first : Bool) (o : Option X) → (first || is_some o) ≡ true → (not first && is_none o) ≡ false
      here true o h = refl
      here false None h = cc
      here false (Some x) h = refl

  -- TAKEN: of an event that isn't lost, and is an inception or has its predecessor, the current state takes it
  first_taken : (s : Option State) → is_lost mode log s b ≡ false → is_inception b.event ≡ true → takes s b.event ≡ true
  first_taken None lost first = first
  first_taken (Some s) lost first = let late : (is_inception b.event && true) ≡ true = rw first refl in
      let no = (or_parts (is_inception b.event && true) _ (or_parts _ _ lost).0).0 in cc

  next_taken : (s : Option State) → is_lost mode log s b ≡ false → is_some (predecessor log b) ≡ true → takes s b.event ≡ true
  next_taken s lost some =
      let parts = or_parts _ _ (or_parts _ _ lost).0 in
      let no : (not (stands log b) || not (takes s b.event)) ≡ false = under (is_some (predecessor log b)) (not (stands log b) || not (takes s b.event)) some parts.1 in
      not-false _ (or_parts (not (stands log b)) (not (takes s b.event)) no).1
    where
      under : (p q : Bool) → p ≡ true → (p && q) ≡ false → q ≡ false
      under true q h k = k
      under false q h k = cc

  pub there_taken : (s : Option State) → is_lost mode log s b ≡ false → is_there log b ≡ true → takes s b.event ≡ true
  there_taken s lost there = elim (or_cases (is_inception b.event) (is_some (predecessor log b)) there) [
    | inl first ↦ first_taken s lost first
    | inr some ↦ next_taken s lost some
  ]
