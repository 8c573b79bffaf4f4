-- What is wanting by the parts of an event is what is wanting by what was told.
use Rattle.std.proofs.Common.{◌≡◌, Bool, true, false, not, ◌&&◌, ◌||◌, List, [], ◌∷◌, Option, is_none, refl, sym, ◌∙◌, ap, inl, inr}
use Rattle.std.proofs.Math.Bool.{and-false, and-true}
use Rattle.std.proofs.lemmas.Bool.{cases_Bool}
use Rattle.event_body.specs.EventBody.Events.{prefix_of, is_rotation}
use Rattle.key_state.specs.Exposure.{own_rules}
use Rattle.key_state.specs.KeyStates.{first_true}
use Rattle.key_state.specs.States.{State}
use Rattle.journal.specs.declared.journal.body.Body.{Body}
use Rattle.journal.specs.declared.journal.mode.Mode.{Mode}
use Rattle.journal.specs.declared.journal.why.Why.TheVariants.{Signatures, Next, Receipts, Seal}
use Rattle.journal.specs.Journal.Logs.{state, takes}
use Rattle.journal.specs.Journal.Seals.{anchored}
use Rattle.journal.specs.Journal.History.{Told}
use Rattle.journal.specs.Journal.Readiness.{is_backed, is_local, is_ready, meets_before, meets_own, signed}
use Rattle.journal.specs.EventRules.Parts.{Part, supports, has_own, has_next}
use Rattle.claim_table.specs.CoreLaws.Support.{AreSound}
use Rattle.claim_table.specs.CoreLaws.Waking.{is_waiting}
use Rattle.claim_table.proofs.CoreLawsLemmas.Enough.{enough, next_is, own_is}
use Rattle.validator_core.proofs.AcceptanceLemmas.ReadyRows.{untaken}
use Rattle.validator_core.specs.Acceptance.Wants.{wants, wants_by}

-- WANTS
module _ (mode : Mode) (told : List Told) (log : List Body) (b : Body) where
  pub wants_are : (s : Option State) (has : Part → Bool) → AreSound (own_rules s b.event) → ((p : Part) → has p ≡ supports told s b p)
      → wants_by mode has s b.event (anchored log s b.event) ≡ wants mode told log s b
  wants_are s has sound same =
      let are : has ≡ supports told s b = λ i p. same p i in
      let own = ap (λ h. has_own h (own_rules s b.event)) are ∙ sym (own_is told s b sound) in
      let next = ap (λ h. not (is_rotation b.event) || has_next h s) are ∙ sym (next_is told s b b.event refl) in
      let backed = sym (enough told s b has sound same).1 in
      λ i. first_true (
      (not (own i), Signatures)
      ∷ (not (next i), Next)
      ∷ (not (is_local mode) && not (backed i), Receipts)
      ∷ (not (is_local mode) && not (anchored log s b.event), Seal)
      ∷ [])

  -- READY: what the current state takes is ready where nothing is wanting
  nothing_wanting : (own next local backed sealed : Bool) → ((own && next) && (local || (backed && sealed)))
      ≡ is_none (first_true ((not own, Signatures) ∷ (not next, Next) ∷ (not local && not backed, Receipts) ∷ (not local && not sealed, Seal) ∷ []))
  nothing_wanting false next local backed sealed = refl
  nothing_wanting true false local backed sealed = refl
  nothing_wanting true true true backed sealed = refl
  nothing_wanting true true false false sealed = refl
  nothing_wanting true true false true false = refl
  nothing_wanting true true false true true = refl

  pub ready_wants : (s : Option State) → s ≡ state log (prefix_of b.event) → is_waiting log b ≡ true → takes s b.event ≡ true
      → is_ready mode told log b ≡ is_none (wants mode told log s b)
  unfolding is_ready signed
  ready_wants s current waits taken = rw (waits, ← current, taken) (nothing_wanting (meets_own told s b) (meets_before told s b) (is_local mode) (is_backed told s b) (anchored log s b.event))

  -- what doesn't wait isn't, and what the current state doesn't take
  pub not_waiting : is_waiting log b ≡ false → is_ready mode told log b ≡ false
  unfolding is_ready
  not_waiting waits = rw waits refl

  pub not_taken : (s : Option State) → s ≡ state log (prefix_of b.event) → takes s b.event ≡ false → is_ready mode told log b ≡ false
  not_taken s current other = untaken mode told log b (ap (λ o. takes o b.event) (sym current) ∙ other)

  -- what the current state takes is ready where it waits and nothing is wanting
  pub ready_is : (s : Option State) → s ≡ state log (prefix_of b.event) → takes s b.event ≡ true → is_ready mode told log b ≡ (is_none (wants mode told log s b) && is_waiting log b)
  ready_is s current taken = elim (cases_Bool (is_waiting log b)) [
    | inl waits ↦ ready_wants s current waits taken ∙ sym (and-true (is_none (wants mode told log s b))) ∙ ap (λ t. is_none (wants mode told log s b) && t) (sym waits)
    | inr not ↦ not_waiting not ∙ sym (and-false (is_none (wants mode told log s b))) ∙ ap (λ t. is_none (wants mode told log s b) && t) (sym not)
  ]
