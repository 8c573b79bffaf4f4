-- The kept signatures are enough: indices and single reveals decide whether an event is signed.
use Rattle.std.proofs.Common.{◌≡◌, ℕ, ◌==◌, ◌||◌, true, not, List, length, map, Option, Some, None, refl, sym, ap, ◌∙◌}
use Rattle.std.specs.List.{list_any}
use Rattle.std.specs.Prelude.{filter}
use Rattle.std.specs.Option.{option_eq}
use Rattle.std.proofs.lemmas.Bool.{and_from, and_parts}
use Rattle.cesr_codes.specs.declared.indexed_sig.IndexedSig.{IndexedSig}
use Rattle.event_body.specs.EventBody.Events.{is_rotation}
use Rattle.event_body.specs.declared.event_body.event.Event.{Event}
use Rattle.event_body.specs.declared.event_body.event.Event.TheVariants.{Icp, Rot, Ixn, Dip, Drt, Rct}
use Rattle.journal.specs.EventRules.Additions.{is_number}
use Rattle.journal.specs.EventRules.Parts.{opens_at}
use Rattle.sith.specs.Tests.{satisfied}
use Rattle.key_state.specs.Exposure.{exposed, numbers_below, own_rules}
use Rattle.key_state.specs.Kept.{IsKept}
use Rattle.key_state.specs.Same.{distinct}
use Rattle.key_state.specs.States.{IsState, State}
use Rattle.key_state.proofs.Same.{numbers}
use Rattle.journal.specs.Journal.History.{Told}
use Rattle.journal.specs.Journal.Readiness.{good_sigs, meets_next, signed}
use Rattle.journal.specs.declared.journal.body.Body.{Body}
use Rattle.claim_table.proofs.CoreLawsLemmas.Below.{AreSameBelow, same_satisfied}
use Rattle.journal_views.specs.EventPayload.Kept.{kept, reveal_of, same_part, signed_by, state_under}
use Rattle.journal_views.proofs.EventPayloadLemmas.Firsts.{any_first, any_map}
use Rattle.journal_views.proofs.EventPayloadLemmas.Reveals.{opens_is}

same_option : (o r : Option ℕ) → option_eq (λ i j. i == j) o r ≡ true → o ≡ r
same_option None None h = refl
same_option None (Some n) h = cc h
same_option (Some m) None h = cc h
same_option (Some m) (Some n) h = ap (λ k. Some k) (numbers m n h)

module _ (s : Option State) (e : Event) (sigs : List IndexedSig) where
  -- the same indices
  same_indices : (bound : ℕ) → AreSameBelow bound (map (λ (g : IndexedSig). g.index) (distinct (same_part s e) sigs)) (map (λ (g : IndexedSig). g.index) sigs)
  same_indices bound n low =
      any_map (λ (g : IndexedSig). g.index) (λ i. i == n) (distinct (same_part s e) sigs)
      ∙ any_first (same_part s e) (λ g. g.index == n)
      (λ x y same. ap (λ i. i == n) (numbers x.index y.index (and_parts (x.index == y.index) (option_eq (λ i j. i == j) (reveal_of s e x) (reveal_of s e y)) same).0)) sigs
      ∙ sym (any_map (λ (g : IndexedSig). g.index) (λ i. i == n) sigs)

  -- the same commitments
  same_opened : (n : ℕ) → list_any (opens_at s e n) (distinct (same_part s e) sigs) ≡ list_any (opens_at s e n) sigs
  same_opened n = any_first (same_part s e) (opens_at s e n)
      (λ x y same.
      sym (opens_is s e x n)
      ∙ ap (λ o. is_number o n) (same_option (reveal_of s e x) (reveal_of s e y) (and_parts (x.index == y.index) (option_eq (λ i j. i == j) (reveal_of s e x) (reveal_of s e y)) same).1)
      ∙ opens_is s e y n) sigs

same_next : (s : Option State) (e : Event) (sigs : List IndexedSig) → meets_next s e (distinct (same_part s e) sigs) ≡ meets_next s e sigs
unfolding exposed
same_next None e sigs = refl
same_next (Some s) (Icp e) sigs = refl
same_next (Some s) (Ixn e) sigs = refl
same_next (Some s) (Dip e) sigs = refl
same_next (Some s) (Rct e) sigs = refl
same_next (Some s) (Rot e) sigs = ap (λ test. satisfied s.nt (length s.next) (filter test (numbers_below (length s.next)))) (λ i n. same_opened (Some s) (Rot e) sigs n i)
same_next (Some s) (Drt e) sigs = ap (λ test. satisfied s.nt (length s.next) (filter test (numbers_below (length s.next)))) (λ i n. same_opened (Some s) (Drt e) sigs n i)

-- indices decide of the threshold of the keys
same_own : (s : Option State) (e : Event) (sigs : List IndexedSig) → IsKept e → ((t : State) → s ≡ Some t → IsState t)
    → satisfied (own_rules s e).kt (length (own_rules s e).keys) (map (λ g. g.index) sigs) ≡ true
    → satisfied (own_rules s e).kt (length (own_rules s e).keys) (map (λ g. g.index) (distinct (same_part s e) sigs)) ≡ true
unfolding satisfied
same_own s (Icp e) sigs has is met = same_satisfied _ _ e.kt (length e.keys) has.kt_read (same_indices s (Icp e) sigs (length e.keys)) ∙ met
same_own s (Dip e) sigs has is met = same_satisfied _ _ e.kt (length e.keys) has.kt_read (same_indices s (Dip e) sigs (length e.keys)) ∙ met
same_own s (Rot e) sigs has is met = same_satisfied _ _ e.kt (length e.keys) has.kt_read (same_indices s (Rot e) sigs (length e.keys)) ∙ met
same_own s (Drt e) sigs has is met = same_satisfied _ _ e.kt (length e.keys) has.kt_read (same_indices s (Drt e) sigs (length e.keys)) ∙ met
same_own (Some s) (Ixn e) sigs has is met = same_satisfied _ _ s.kt (length s.keys) (is s refl).kt_read (same_indices (Some s) (Ixn e) sigs (length s.keys)) ∙ met
same_own (Some s) (Rct e) sigs has is met = same_satisfied _ _ s.kt (length s.keys) (is s refl).kt_read (same_indices (Some s) (Rct e) sigs (length s.keys)) ∙ met
same_own None (Ixn e) sigs has is met = cc met
same_own None (Rct e) sigs has is met = cc met

-- ENOUGH: an event that is signed by all its good signatures is signed by the kept ones
pub kept_is_enough : (told : List Told) (log : List Body) (b : Body) → IsKept b.event → ((s : State) → state_under log b ≡ Some s → IsState s)
    → signed told (state_under log b) b ≡ true → signed_by (state_under log b) b.event (kept told log b) ≡ true
unfolding signed
kept_is_enough told log b has is h =
    let s = state_under log b in
    let sigs = good_sigs told s b in
    let parts = and_parts (satisfied (own_rules s b.event).kt (length (own_rules s b.event).keys) (map (λ g. g.index) sigs)) (not (is_rotation b.event) || meets_next s b.event sigs) h in
    and_from _ _ (same_own s b.event sigs has is parts.0) (ap (λ met. not (is_rotation b.event) || met) (same_next s b.event sigs) ∙ parts.1)
