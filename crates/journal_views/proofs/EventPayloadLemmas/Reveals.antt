-- The reveal of a signature is the place of the commitment that it opens, where it opens one.
use Rattle.std.proofs.Common.{◌≡◌, ℕ, zero, suc, ◌<◌, ◌==◌, ◌||◌, Bool, true, false, cond, List, [], ◌∷◌, length, Option, Some, None, slice_get, refl, sym, ap, ◌∙◌, inl, inr, arith}
use Rattle.std.specs.List.{list_any, list_all}
use Rattle.std.specs.Prelude.{filter}
use Rattle.std.proofs.lemmas.Bool.{and_from, and_parts, cases_Bool, cases_eq, eq-eqb, or_left, or_right}
use Rattle.std.proofs.lemmas.List.Elements.{filter_agree}
use Rattle.std.proofs.lemmas.List.Folds.{list_any-append}
use Rattle.std.proofs.lemmas.Option.{slice_get_within}
use Rattle.cesr_codes.specs.declared.digest.Digest.{Digest}
use Rattle.cesr_codes.specs.declared.indexed_sig.IndexedSig.{IndexedSig}
use Rattle.cesr_codes.specs.declared.key.Key.{Key}
use Rattle.event_body.specs.declared.event_body.event.Event.{Event}
use Rattle.event_body.specs.declared.event_body.event.Event.TheVariants.{Icp, Rot, Ixn, Dip, Drt, Rct}
use Rattle.journal.specs.EventRules.Additions.{is_number}
use Rattle.journal.specs.EventRules.Parts.{opens_at}
use Rattle.key_state.specs.Exposure.{commits, exposed, numbers_below, opened, opens}
use Rattle.key_state.specs.States.{State}
use Rattle.key_state.proofs.Numbers.{filter_below-suc}
use Rattle.key_state.proofs.Same.{number_itself, numbers}
use Rattle.journal_views.specs.EventPayload.Kept.{reveal_of}

module _ (test : ℕ → Bool) where
  -- the numbers that pass, pass
  passing : (ns : List ℕ) → list_all test (filter test ns) ≡ true
  passing [] = refl
  passing (n ∷ ns) = elim (cases_Bool (test n)) [ inl k ↦ rw k (and_from (test n) _ k (passing ns)) | inr k ↦ rw k (passing ns) ]

  -- a number below a bound that passes is among those that do
  found : (n : ℕ) → test n ≡ true → (bound : ℕ) → n < bound → list_any (λ i. i == n) (filter test (numbers_below bound)) ≡ true
  found n h zero low = absurd (omega (arith, low))
  found n h (suc bound) low =
      let here = cond (test bound) (bound ∷ []) [] in
      ap (list_any (λ i. i == n)) (filter_below-suc test bound)
      ∙ list_any-append (λ i. i == n) (filter test (numbers_below bound)) here
      ∙ elim (cases_eq n bound) [
        | inl same ↦ or_right (list_any (λ i. i == n) (filter test (numbers_below bound))) (list_any (λ i. i == n) here) (last same)
        | inr other ↦ or_left (list_any (λ i. i == n) (filter test (numbers_below bound))) (list_any (λ i. i == n) here) (found n h bound (omega (arith, low, other)))
      ]
    where
      last : n ≡ bound → list_any (λ i. i == n) (cond (test bound) (bound ∷ []) []) ≡ true
      last same =
          let passes : test bound ≡ true = ap test (sym same) ∙ h in
          ap (λ t. list_any (λ i. i == n) (cond t (bound ∷ []) [])) passes ∙ or_left (bound == n) false (eq-eqb bound n (sym same))

  -- where one number at most passes, the first of a list with it is it
  first : (ns : List ℕ) (n : ℕ) → list_all test ns ≡ true → (test n ≡ true → list_any (λ i. i == n) ns ≡ true) → ((i j : ℕ) → test i ≡ true → test j ≡ true → i ≡ j)
      → is_number (slice_get ns 0) n ≡ test n
  first [] n all among one = elim (cases_Bool (test n)) [ inl k ↦ cc (among k) | inr k ↦ sym k ]
  first (m ∷ ns) n all among one =
      let passes = (and_parts (test m) (list_all test ns) all).0 in
      elim (cases_Bool (test n)) [
        | inl k ↦ eq-eqb m n (one m n passes k) ∙ sym k
        | inr k ↦ elim (cases_Bool (m == n)) [ inl l ↦ cc (passes, numbers m n l) | inr l ↦ l ∙ sym k ]
      ]

module _ (next : List Digest) (keys : List Key) (sig : IndexedSig) where
  -- a signature opens the commitment of its own place alone
  place_is : (j : ℕ) → opens next keys j sig ≡ true → sig.ondex ≡ Some j
  place_is j h = at sig.ondex refl
    where
      at : (o : Option ℕ) → sig.ondex ≡ o → sig.ondex ≡ Some j
      at None e = cc (rw e at h)
      at (Some k) e = e ∙ ap (λ n. Some n) (numbers k j (and_parts (k == j) (commits (slice_get next j) (slice_get keys sig.index)) (rw e at h)).0)

  one_place : (i j : ℕ) → opens next keys i sig ≡ true → opens next keys j sig ≡ true → i ≡ j
  one_place i j h k = cc (place_is i h, place_is j k)

  -- of a commitment that there is
  within : (j : ℕ) → opens next keys j sig ≡ true → j < length next
  within j h = at (slice_get next j) refl
    where
      at : (o : Option Digest) → slice_get next j ≡ o → j < length next
      at None e = cc (rw e at (and_parts _ (commits (slice_get next j) (slice_get keys sig.index)) h).1)
      at (Some d) e = slice_get_within next j d e

  alone : (opened next keys (sig ∷ [])) ≡ filter (λ j. opens next keys j sig) (numbers_below (length next))
  alone = filter_agree (λ j. list_any (opens next keys j) (sig ∷ [])) (λ j. opens next keys j sig) (λ j. or_none (opens next keys j sig)) (numbers_below (length next))
    where
      or_none : (b : Bool) → (b || false) ≡ b
      or_none true = refl
      or_none false = refl

  reveal_by : (n : ℕ) → is_number (slice_get (opened next keys (sig ∷ [])) 0) n ≡ opens next keys n sig
  reveal_by n =
      let test : ℕ → Bool = λ j. opens next keys j sig in
      ap (λ ns. is_number (slice_get ns 0) n) alone
      ∙ first test (filter test (numbers_below (length next))) n (passing test (numbers_below (length next))) (λ h. found test n h (length next) (within n h)) one_place

-- OPENS: a signature's reveal says which commitment it opens
pub opens_is : (s : Option State) (e : Event) (sig : IndexedSig) (n : ℕ) → is_number (reveal_of s e sig) n ≡ opens_at s e n sig
unfolding exposed
opens_is None e sig n = refl
opens_is (Some s) (Icp e) sig n = refl
opens_is (Some s) (Rot e) sig n = reveal_by s.next e.keys sig n
opens_is (Some s) (Ixn e) sig n = refl
opens_is (Some s) (Dip e) sig n = refl
opens_is (Some s) (Drt e) sig n = reveal_by s.next e.keys sig n
opens_is (Some s) (Rct e) sig n = refl

-- what names the same numbers is the same
same_number : (o r : Option ℕ) → ((n : ℕ) → is_number o n ≡ is_number r n) → o ≡ r
same_number None None h = refl
same_number None (Some m) h = cc (h m, number_itself m)
same_number (Some m) None h = cc (h m, number_itself m)
same_number (Some m) (Some n) h = ap (λ k. Some k) (numbers m n (h n ∙ number_itself n))

-- REVEAL: a place that is so is the reveal
pub reveal_is : (s : Option State) (e : Event) (sig : IndexedSig) (reveal : Option ℕ) → ((n : ℕ) → is_number reveal n ≡ opens_at s e n sig) → reveal ≡ reveal_of s e sig
reveal_is s e sig reveal h = same_number reveal (reveal_of s e sig) (λ n. h n ∙ sym (opens_is s e sig n))

-- the reveal is the place of a commitment of the state
pub reveal_within : (s : State) (e : Event) (sig : IndexedSig) (n : ℕ) → reveal_of (Some s) e sig ≡ Some n → n < length s.next
reveal_within s e sig n is = at e (sym (opens_is (Some s) e sig n) ∙ ap (λ o. is_number o n) is ∙ number_itself n)
  where
    at : (e : Event) → opens_at (Some s) e n sig ≡ true → n < length s.next
    at (Icp e) h = cc h
    at (Rot e) h = within s.next e.keys sig n h
    at (Ixn e) h = cc h
    at (Dip e) h = cc h
    at (Drt e) h = within s.next e.keys sig n h
    at (Rct e) h = cc h
