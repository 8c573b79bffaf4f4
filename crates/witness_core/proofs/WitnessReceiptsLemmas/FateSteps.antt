-- The fate of an event, case by case.
use Rattle.std.proofs.Common.{◌≡◌, ℕ, zero, suc, ◌+◌, ◌-◌, ◌<◌, true, false, List, [], ◌∷◌, ◌++◌, length, map, take, get_or, Some, None, refl, sym, ap, subst, ◌∙◌, arith}
use Rattle.std.specs.Prelude.{All, slice_get}
use Rattle.std.proofs.lemmas.List.{take_more}
use Rattle.std.proofs.lemmas.Option.{get_or_from_slice_get, slice_get-get_or, slice_get_within}
use Rattle.cesr_codes.specs.declared.key.Key.{Key}
use Rattle.event_body.specs.declared.event_body.event.Event.{Event}
use Rattle.event_body.specs.EventBody.Events.{is_receipt}
use Rattle.journal.specs.Journal.Readiness.{is_ready}
use Rattle.journal.specs.declared.journal.body.Body.{Body}
use Rattle.journal.specs.Journal.Logs.{is_in}
use Rattle.journal.specs.Journal.Waiting.{why_waits}
use Rattle.journal.specs.Journal.Journals.{chosen}
use Rattle.journal.proofs.JournalLemmas.Places.{all_at, some_at}
use Rattle.validator_core.specs.ValidatorCore.Signatures.{is_witness_under}
use Rattle.validator_core.specs.ValidatorCore.View.{CoreView, IsSoundCore, accepted_by, told_of, waits_for}
use Rattle.witness_core.specs.declared.witness_receipts.fate.Fate.{Fate}
use Rattle.witness_core.specs.declared.witness_receipts.fate.Fate.TheVariants.{Stored}
use Rattle.witness_core.specs.WitnessReceipts.Fates.{event_fate, waiting_fate}
use Rattle.witness_core.proofs.WitnessReceiptsLemmas.Numbers.{chosen_there}
use Rattle.witness_core.proofs.WitnessReceiptsLemmas.Reasons.{no_reason}

module _ (core : CoreView) (n : ℕ) (b : Body) (at : slice_get core.held n ≡ Some b) where
  waits_is : waits_for core n ≡ why_waits core.mode (told_of core) (accepted_by core) b
  waits_is = rw at refl

  -- an event that isn't stored waits for a reason
  pub some_reason : IsSoundCore core → is_receipt b.event ≡ false → is_in (accepted_by core) b ≡ false → None ≡ waits_for core n → ⊥
  some_reason stands event out none =
      let ready = no_reason core.mode (told_of core) (accepted_by core) b (sym (none ∙ waits_is)) event out in
      let settled = all_at (λ c. is_ready core.mode (told_of core) (accepted_by core) c ≡ false) core.held stands.settled n b at in
      cc (ready, settled)

module _ (key : Key) (core : CoreView) (b : Body) (event : is_receipt b.event ≡ false) where
  pub fate_stored : is_in (accepted_by core) b ≡ true → event_fate key core b ≡ Some (Stored (is_witness_under (accepted_by core) b key))
  fate_stored stored = rw (event, stored) refl

  pub fate_not_stored : (fate : Fate) → is_in (accepted_by core) b ≡ false → waiting_fate core b ≡ Some fate → event_fate key core b ≡ Some fate
  fate_not_stored fate out waits = rw (event, out, waits) refl

-- the first so many elements, with the last of them
pub take_last : {X : Type 0} (xs : List X) (i : ℕ) (x : X) → 0 < i → slice_get xs (i - 1) ≡ Some x → take i xs ≡ take (i - 1) xs ++ x ∷ []
take_last xs i x some at =
    let more : i ≡ i - 1 + 1 = omega (arith, some) in
    ap (λ k. take k xs) more ∙ take_more xs (i - 1) x (slice_get_within xs (i - 1) x at) ∙ ap (λ y. take (i - 1) xs ++ y ∷ []) (get_or_from_slice_get xs (i - 1) x x at)

-- what stands at a place of a mapped list
pub mapped_at : {X Y : Type 0} (f : X → Y) (xs : List X) (n : ℕ) (x : X) (d : Y) → slice_get xs n ≡ Some x → get_or (map f xs) n d ≡ f x
mapped_at f [] n x d e = cc
mapped_at f (y ∷ xs) zero x d e = let same : y ≡ x = cc in ap f same
mapped_at f (y ∷ xs) (suc n) x d e = mapped_at f xs n x d e

-- BACK: the first so many accepted events, with the last of them, whose event is found by its number
pub back_step : (core : CoreView) (accepted : List ℕ) (events : List Event) → chosen core.held accepted ≡ accepted_by core → All (λ n. n < length core.held) accepted
    → events ≡ map (λ (b : Body). b.event) core.held → (i : ℕ) → 0 < i → i - 1 < length accepted
    → (b : Body) × (take i (accepted_by core) ≡ take (i - 1) (accepted_by core) ++ b ∷ []) × ((d : Event) → get_or events (get_or accepted (i - 1) 0) d ≡ b.event)
back_step core accepted events are low is i some within =
    let n = get_or accepted (i - 1) 0 in
    let b = some_at core.held n (low (i - 1) 0 within) in
    let there = chosen_there core.held accepted (i - 1) n b.0 low (slice_get-get_or accepted (i - 1) 0 within) b.1 in (
      b.0,
      take_last (accepted_by core) i b.0 some (subst (λ log. slice_get log (i - 1) ≡ Some b.0) are there),
      λ d. ap (λ es. get_or es n d) is ∙ mapped_at (λ (b : Body). b.event) core.held n b.0 d b.1,
    )
