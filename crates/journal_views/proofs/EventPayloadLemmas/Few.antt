-- There are few kept signatures: one at most of each index below 64 and each reveal below 64 or none.
use Rattle.std.proofs.Common.{◌≡◌, ℕ, ◌+◌, ◌*◌, ◌≤◌, ◌<◌, ◌==◌, Bool, true, false, not, List, [], ◌∷◌, length, map, eqb, All, Option, Some, None, slice_get, refl, ap, inl, inr, arith}
use Rattle.std.specs.List.{AllByRecursion, IsDistinct, cons_option, list_any}
use Rattle.std.specs.Prelude.{filter, filter_map}
use Rattle.std.specs.Option.{option_eq}
use Rattle.std.proofs.lemmas.Bool.{and_from, cases_Bool, eq-eqb, eqb-true, false_from_ne_true, or_cases}
use Rattle.std.proofs.lemmas.List.Elements.{All-cons, All-head, All-nil, All-tail}
use Rattle.std.proofs.lemmas.Map.Steps.{length-le_from_distinct_below}
use Rattle.std.proofs.lemmas.Option.{slice_get_within}
use Rattle.cesr_codes.specs.declared.indexed_sig.IndexedSig.{IndexedSig}
use Rattle.cesr_codes.specs.declared.key.Key.{Key}
use Rattle.event_body.specs.declared.event_body.event.Event.{Event}
use Rattle.event_body.specs.declared.event_body.event.Event.TheVariants.{Icp, Rot, Ixn, Dip, Drt, Rct}
use Rattle.key_state.specs.Exposure.{Rules, own_rules}
use Rattle.key_state.specs.Kept.{IsKept}
use Rattle.key_state.specs.Same.{distinct}
use Rattle.key_state.specs.States.{IsState, State}
use Rattle.journal.specs.Journal.History.{Told, claims_on, triple_of}
use Rattle.journal.specs.Journal.Readiness.{good_sigs, held_sig, yes_to}
use Rattle.journal.specs.declared.journal.body.Body.{Body}
use Rattle.journal.specs.declared.journal.claim.Claim.{Claim}
use Rattle.journal.specs.declared.journal.claim.Claim.TheVariants.{Controller, Witness, Couple}
use Rattle.journal_views.specs.EventPayload.Kept.{kept, reveal_of, same_part, state_under}
use Rattle.journal_views.specs.EventPayload.Payloads.{payload_of}
use Rattle.journal_views.proofs.EventPayloadLemmas.Firsts.{All-distinct, chosen_fewer, distinct_shorter}
use Rattle.journal_views.proofs.EventPayloadLemmas.Reveals.{reveal_within}
use Rattle.journal_views.proofs.EventPayloadLemmas.Sizes.{payload_long}

-- no reveal is 0, and the others follow
abbrev rank : Option ℕ → ℕ
rank None = 0
rank (Some n) = n + 1

same_rank : (o r : Option ℕ) → rank o ≡ rank r → option_eq (λ i j. i == j) o r ≡ true
same_rank None None e = refl
same_rank None (Some n) e = absurd (omega (arith, e))
same_rank (Some m) None e = absurd (omega (arith, e))
same_rank (Some m) (Some n) e = eq-eqb m n (omega (arith, e))

module _ (s : Option State) (e : Event) where
  -- the index and the reveal as one number
  abbrev code : IndexedSig → ℕ
  code sig = sig.index * 65 + rank (reveal_of s e sig)

  abbrev Fits : IndexedSig → Type 0
  Fits sig = (sig.index < 64) × (rank (reveal_of s e sig) ≤ 64)

  -- parts that differ have different numbers
  differ : (x y : IndexedSig) → Fits x → Fits y → same_part s e x y ≡ false → (code x == code y) ≡ false
  differ x y fx fy apart = false_from_ne_true (code x == code y) (λ t.
      let is : code x ≡ code y = eqb-true (code x) (code y) t in
      let index : x.index ≡ y.index = omega (arith, is, fx.1, fy.1) in
      let reveal : rank (reveal_of s e x) ≡ rank (reveal_of s e y) = omega (arith, is, index) in
      cc (apart, and_from (x.index == y.index) (option_eq (λ i j. i == j) (reveal_of s e x) (reveal_of s e y)) (eq-eqb x.index y.index index) (same_rank (reveal_of s e x) (reveal_of s e y) reveal)))

  others : (x : IndexedSig) (ys : List IndexedSig) → Fits x → All Fits ys → AllByRecursion (λ n. (code x == n) ≡ false) (map code (filter (λ y. not (same_part s e x y)) ys))
  others x [] fx all = tt
  others x (y ∷ ys) fx all =
      let behind = others x ys fx (All-tail Fits y ys all) in
      elim (cases_Bool (same_part s e x y)) [ inl k ↦ rw k behind | inr k ↦ rw k (differ x y fx (All-head Fits y ys all) k, behind) ]

  fewer_all : (P : ℕ → Type 0) (p : IndexedSig → Bool) (ys : List IndexedSig) → AllByRecursion P (map code ys) → AllByRecursion P (map code (filter p ys))
  fewer_all P p [] all = tt
  fewer_all P p (y ∷ ys) all = elim (cases_Bool (p y)) [ inl k ↦ rw k (all.0, fewer_all P p ys all.1) | inr k ↦ rw k (fewer_all P p ys all.1) ]

  fewer_distinct : (p : IndexedSig → Bool) (ys : List IndexedSig) → IsDistinct eqb (map code ys) → IsDistinct eqb (map code (filter p ys))
  unfolding IsDistinct
  fewer_distinct p [] all = tt
  fewer_distinct p (y ∷ ys) all = elim (cases_Bool (p y)) [
    | inl k ↦ rw k (fewer_all (λ n. eqb (code y) n ≡ false) p ys all.0, fewer_distinct p ys all.1)
    | inr k ↦ rw k (fewer_distinct p ys all.1)
  ]

  codes_differ : (xs : List IndexedSig) → All Fits xs → IsDistinct eqb (map code (distinct (same_part s e) xs))
  unfolding IsDistinct distinct
  codes_differ [] all = tt
  codes_differ (x ∷ xs) all =
      let behind = All-distinct (same_part s e) Fits xs (All-tail Fits x xs all) in (
        others x (distinct (same_part s e) xs) (All-head Fits x xs all) behind,
        fewer_distinct (λ y. not (same_part s e x y)) (distinct (same_part s e) xs) (codes_differ xs (All-tail Fits x xs all)),
      )

  codes_low : (xs : List IndexedSig) → All Fits xs → (n : ℕ) → list_any (eqb n) (map code xs) ≡ true → n < 4160
  codes_low [] all n h = cc h
  codes_low (x ∷ xs) all n h = elim (or_cases (eqb n (code x)) (list_any (eqb n) (map code xs)) h) [
    | inl k ↦ (let fits = All-head Fits x xs all in omega (arith, eqb-true n (code x) k, fits.0, fits.1))
    | inr k ↦ codes_low xs (All-tail Fits x xs all) n k
  ]

  length-map : (xs : List IndexedSig) → length (map code xs) ≡ length xs
  length-map [] = refl
  length-map (x ∷ xs) = omega (arith, length-map xs)

  -- one of each number at most
  firsts_few : (xs : List IndexedSig) → All Fits xs → length (distinct (same_part s e) xs) ≤ 4160
  firsts_few xs all =
      let firsts = distinct (same_part s e) xs in
      omega (arith, length-map firsts, length-le_from_distinct_below (map code firsts) 4160 (codes_differ xs all) (codes_low firsts (All-distinct (same_part s e) Fits xs all)))

-- the keys that sign an event are few
keys_few : (s : Option State) (e : Event) → IsKept e → ((t : State) → s ≡ Some t → IsState t) → length (own_rules s e).keys ≤ 64
keys_few s (Icp e) kept is = kept.few_keys
keys_few s (Dip e) kept is = kept.few_keys
keys_few s (Rot e) kept is = kept.few_keys
keys_few s (Drt e) kept is = kept.few_keys
keys_few None (Ixn e) kept is = omega arith
keys_few None (Rct e) kept is = omega arith
keys_few (Some s) (Ixn e) kept is = (is s refl).few_keys
keys_few (Some s) (Rct e) kept is = (is s refl).few_keys

-- a signature with a yes is by a key of the event
index_low : (told : List Told) (rules : Rules) (b : Body) (c : Claim) (sig : IndexedSig) → yes_to told (triple_of rules b c) ≡ true → held_sig c ≡ Some sig → sig.index < length rules.keys
index_low told rules b (Controller g) sig good is =
    let same : g ≡ sig = cc is in
    omega (arith, at (slice_get rules.keys g.index) refl, ap (λ (x : IndexedSig). x.index) same)
  where
    at : (key : Option Key) → slice_get rules.keys g.index ≡ key → g.index < length rules.keys
    at None e = cc (rw e at good)
    at (Some key) e = slice_get_within rules.keys g.index key e
index_low told rules b (Witness g) sig good is = cc is
index_low told rules b (Couple key g) sig good is = cc is

rank_low : (s : Option State) (e : Event) → ((t : State) → s ≡ Some t → IsState t) → (sig : IndexedSig) → rank (reveal_of s e sig) ≤ 64
rank_low None e is sig = omega arith
rank_low (Some s) e is sig = at (reveal_of (Some s) e sig) refl
  where
    at : (o : Option ℕ) → reveal_of (Some s) e sig ≡ o → rank (reveal_of (Some s) e sig) ≤ 64
    at None h = rw h (omega arith)
    at (Some n) h = rw h (omega (arith, reveal_within s e sig n h, (is s refl).few_next))

module _ (told : List Told) (s : Option State) (b : Body) (has : IsKept b.event) (is : (t : State) → s ≡ Some t → IsState t) where
  one_fits : (c : Claim) → yes_to told (triple_of (own_rules s b.event) b c) ≡ true → (o : Option IndexedSig) → held_sig c ≡ o
      → (sigs : List IndexedSig) → All (Fits s b.event) sigs → All (Fits s b.event) (cons_option o sigs)
  one_fits c k None e sigs all = all
  one_fits c k (Some sig) e sigs all = All-cons (Fits s b.event) sig sigs
      (omega (arith, index_low told (own_rules s b.event) b c sig k e, keys_few s b.event has is), rank_low s b.event is sig) all

  good_fit : (cs : List Claim) → All (Fits s b.event) (filter_map held_sig (filter (λ c. yes_to told (triple_of (own_rules s b.event) b c)) cs))
  good_fit [] = All-nil (Fits s b.event)
  good_fit (c ∷ cs) = elim (cases_Bool (yes_to told (triple_of (own_rules s b.event) b c))) [
    | inl k ↦ rw k (one_fits c k (held_sig c) refl _ (good_fit cs))
    | inr k ↦ rw k (good_fit cs)
  ]

  goods_fit : All (Fits s b.event) (good_sigs told s b)
  unfolding good_sigs
  goods_fit = good_fit (claims_on told b)

-- FEW: at most 64 * 65 signatures are kept with an event
pub kept_few : (told : List Told) (log : List Body) (b : Body) → IsKept b.event → ((s : State) → state_under log b ≡ Some s → IsState s) → length (kept told log b) ≤ 4160
kept_few told log b has is = firsts_few (state_under log b) b.event (good_sigs told (state_under log b) b) (goods_fit told (state_under log b) b has is)

-- NO MORE: they are no more than the claims of the controller that came on it
pub kept_no_more : (told : List Told) (log : List Body) (b : Body) → length (kept told log b) ≤ length (filter_map held_sig (claims_on told b))
unfolding good_sigs
kept_no_more told log b =
    let s = state_under log b in
    omega (
      arith,
      distinct_shorter (same_part s b.event) (good_sigs told s b),
      chosen_fewer held_sig (λ c. yes_to told (triple_of (own_rules s b.event) b c)) (claims_on told b),
    )

-- WEIGHS: what is kept of an event weighs no more than its body, two counters and the claims of the controller that came on it
pub payload_weighs : (told : List Told) (log : List Body) (b : Body) → IsKept b.event → ((s : State) → state_under log b ≡ Some s → IsState s)
    → length (payload_of b.bytes (kept told log b)) ≤ length b.bytes + 8 + 92 * length (filter_map held_sig (claims_on told b))
payload_weighs told log b has is = omega (arith, payload_long b.bytes (kept told log b) (kept_few told log b has is), kept_no_more told log b)
