-- What the hints find, and that they find it in a longer log and in one that was cut back.
use Rattle.std.proofs.Common.{◌≡◌, ℕ, zero, suc, ◌+◌, ◌<◌, ◌≤◌, Bool, true, false, List, [], ◌∷◌, ◌++◌, length, take, drop, Option, Some, None, refl, sym, ◌∙◌, ap, subst, inl, inr, arith, length-append}
use Rattle.std.specs.Prelude.{slice_get, Contains}
use Rattle.std.proofs.lemmas.Bool.{cases_Bool, cases_eq, cases_lt}
use Rattle.std.proofs.lemmas.List.{length-take}
use Rattle.std.specs.List.Sorted.{IsStrictlyIncreasing}
use Rattle.std.proofs.lemmas.List.Kept.{AllPairs-from_increasing}
use Rattle.std.proofs.lemmas.Option.{get_or_from_slice_get, slice_get_read, slice_get_within}
use Rattle.cesr_codes.specs.declared.digest.Digest.{Digest}
use Rattle.cesr_codes.specs.declared.prefix.Prefix.{Prefix}
use Rattle.key_state.specs.States.{State}
use Rattle.key_state.proofs.Same.{same_prefix_is}
use Rattle.validator_core.specs.declared.tables.accepted_log.place.Place.{Place}
use Rattle.validator_core.specs.Tables.AcceptedLog.Hints.{AreHinted, IsLast, IsSound, is_state_of}
use Rattle.validator_core.specs.Tables.AcceptedLog.Values.{Log, at_place, established, gone_onto, has_more, last_from, last_place, rewound, undone, undone_all, with_since, without_last}
use Rattle.validator_core.proofs.TablesLemmas.AcceptedLogLemmas.Lists.{at_place_seen}
use Rattle.lists.proofs.ListsLemmas.Places.{at_end, not_at_end, of_front}

-- a number that is among others stands at some place
pub contained_at : (numbers : List ℕ) (n : ℕ) → Contains numbers n → (k : ℕ) × (slice_get numbers k ≡ Some n)
contained_at numbers n inside = (inside.0, slice_get_read numbers (length numbers) inside.0 n refl inside.1 (sym inside.2))

-- where the numbers behind fail the test, one that passes is the greatest
pub found_greatest : (test : ℕ → Bool) (numbers : List ℕ) (i n : ℕ) → IsStrictlyIncreasing numbers → slice_get numbers i ≡ Some n → test n ≡ true
    → ((k m : ℕ) → suc i ≤ k → slice_get numbers k ≡ Some m → test m ≡ false) → IsLast test numbers (Some n)
found_greatest test numbers i n rising at some fail = (
  some,
  λ m inside passes.
      let there = contained_at numbers m inside in let k = there.0 in
      elim (cases_lt i k) [
        | inl later ↦ (let clash : true ≡ false = sym passes ∙ fail k m (omega (arith, later)) there.1 in cc)
        | inr earlier ↦ elim (cases_eq k i) [
          | inl same ↦ (let both : Some m ≡ Some n = sym there.1 ∙ ap (slice_get numbers) same ∙ at in let is : m ≡ n = cc in omega (arith, is))
          | inr other ↦ (let less = AllPairs-from_increasing numbers rising k i 0 (before k i earlier other) (slice_get_within numbers i n at) in
              let first = get_or_from_slice_get numbers k m 0 there.1 in let second = get_or_from_slice_get numbers i n 0 at in
              omega (arith, less, first, second))
        ]
      ],
)
  where
    before : (k i : ℕ) → k ≤ i → (k ≡ i → ⊥) → k < i
    before k i le apart = elim (cases_lt k i) [ inl lt ↦ lt | inr ge ↦ absurd (apart (omega (arith, le, ge))) ]

-- the last state is found among the numbers of its identifier
last_none : (n : ℕ) (prefix : Prefix) (states : List State) → ((m : ℕ) → is_state_of prefix (slice_get states m) ≡ false) → last_from n prefix states ≡ None
unfolding last_from
last_none n prefix [] h = refl
last_none n prefix (s ∷ states) h = let rest = last_none (n + 1) prefix states (λ m. h (suc m)) in let here = h 0 in rw (rest, here) refl

last_some : (n : ℕ) (prefix : Prefix) (states : List State) (j : ℕ) → is_state_of prefix (slice_get states j) ≡ true → ((m : ℕ) → is_state_of prefix (slice_get states m) ≡ true → m ≤ j) → last_from n prefix states ≡ Some (n + j)
unfolding last_from
last_some n prefix [] j h most = cc
last_some n prefix (s ∷ states) zero h most =
    let rest = last_none (n + 1) prefix states (λ m. elim (cases_Bool (is_state_of prefix (slice_get states m))) [
      | inr fails ↦ fails
      | inl some ↦ (let more = most (suc m) some in absurd (omega (arith, more)))
    ]) in
    let sum : n + 0 ≡ n = omega arith in
    rw (rest, h, sum) refl
last_some n prefix (s ∷ states) (suc j) h most =
    let rest = last_some (n + 1) prefix states j h (λ m some. let more = most (suc m) some in omega (arith, more)) in
    let sum : n + 1 + j ≡ n + suc j = omega arith in
    rw rest (ap (λ k. Some k) sum)

pub found_place : (numbers : Prefix → List ℕ) (states : List State) (prefix : Prefix) (o : Option ℕ) → AreHinted numbers states → IsLast (λ k. is_state_of prefix (slice_get states k)) (numbers prefix) o → o ≡ last_place prefix states
found_place numbers states prefix o hinted h = by o h
  where
    listed : (k : ℕ) → is_state_of prefix (slice_get states k) ≡ true → Contains (numbers prefix) k
    listed k some = at (slice_get states k) refl some
      where
        at : (o : Option State) → slice_get states k ≡ o → is_state_of prefix o ≡ true → Contains (numbers prefix) k
        at None e h = cc
        at (Some s) e h = subst (λ q. Contains (numbers q) k) (same_prefix_is s.prefix prefix h) (hinted k s e)

    by : (o : Option ℕ) → IsLast (λ k. is_state_of prefix (slice_get states k)) (numbers prefix) o → o ≡ last_place prefix states
    by None h = sym (last_none 0 prefix states (λ k. elim (cases_Bool (is_state_of prefix (slice_get states k))) [
      | inr fails ↦ fails
      | inl some ↦ h k (listed k some)
    ]))
    by (Some j) h = let sum : 0 + j ≡ j = omega arith in sym (last_some 0 prefix states j h.0 (λ m some. h.1 m (listed m some) some) ∙ ap (λ k. Some k) sum)

-- and before a place too
pub found_before : (numbers : Prefix → List ℕ) (states front : List State) (n : ℕ) (prefix : Prefix) (o : Option ℕ) → AreHinted numbers states → front ≡ take n states → IsLast (λ k. is_state_of prefix (slice_get front k)) (numbers prefix) o
    → o ≡ last_place prefix front
found_before numbers states front n prefix o hinted is h = found_place numbers front prefix o (λ k s at. hinted k s (of_front states n k s (ap (λ states. slice_get states k) (sym is) ∙ at))) h

-- hints that keep the places that there are
pub sound_more : (old new : Prefix → List ℕ) (v : Log) (place : ℕ) → length v.states ≤ place → ((q : Prefix) (n : ℕ) → n < place → Contains (old q) n → Contains (new q) n) → IsSound v old → IsSound v new
sound_more old new v place few kept h = record {
  even = h.even;
  hinted = λ k s at. (let within = slice_get_within v.states k s at in kept s.prefix k (omega (arith, within, few)) (h.hinted k s at));
}

-- one more number and place
evenly : (v : Log) (number : ℕ) (p : Place) → length v.places ≡ length v.numbers → length (v.places ++ p ∷ []) ≡ length (v.numbers ++ number ∷ [])
evenly v number p even = omega (arith, even, length-append v.places (p ∷ []), length-append v.numbers (number ∷ []))

pub sound_established : (number entries : ℕ) (s : State) (v : Log) (numbers : Prefix → List ℕ) → Contains (numbers s.prefix) (length v.states) → IsSound v numbers → IsSound (established number entries s v) numbers
sound_established number entries s v numbers new h = record {
  even = evenly v number (record { state = length v.states; entries = entries }) h.even;
  hinted = λ k t at. elim (cases_eq k (length v.states)) [
    | inr other ↦ h.hinted k t (sym (not_at_end v.states s k other) ∙ at)
    | inl same ↦ (let both : Some s ≡ Some t = sym (at_end v.states s) ∙ ap (slice_get (v.states ++ s ∷ [])) (sym same) ∙ at in
        let is : s ≡ t = cc in
        subst (λ n. Contains (numbers t.prefix) n) (sym same) (subst (λ (t : State). Contains (numbers t.prefix) (length v.states)) is new))
  ];
}

hinted_at : (numbers : Prefix → List ℕ) (states : List State) (k : ℕ) (f : State → State) → ((s : State) → (f s).prefix ≡ s.prefix) → AreHinted numbers states → AreHinted numbers (at_place k f states)
hinted_at numbers states k f same h i s at = let was = at_place_seen (λ (s : State). s.prefix) f same states k i s at in subst (λ q. Contains (numbers q) i) was.2 (h i was.0 was.1)

pub sound_gone_onto : (number entries : ℕ) (d : Digest) (k : ℕ) (v : Log) (numbers : Prefix → List ℕ) → IsSound v numbers → IsSound (gone_onto number entries d (Some k) v) numbers
sound_gone_onto number entries d k v numbers h = record {
  even = evenly v number (record { state = k; entries = entries }) h.even;
  hinted = hinted_at numbers v.states k (with_since d) (λ s. refl) h.hinted;
}

-- some events less
hinted_undone : (numbers : Prefix → List ℕ) (k : ℕ) (states : List State) → AreHinted numbers states → AreHinted numbers (undone k states)
hinted_undone numbers k states h = elim (cases_Bool (has_more (slice_get states k))) [
  | inl y ↦ (let kept = hinted_at numbers states k without_last (λ s. refl) h in rw y kept)
  | inr y ↦ (let kept : AreHinted numbers (take k states) = λ i s at. h i s (of_front states k i s at) in rw y kept)
]

hinted_undone_all : (numbers : Prefix → List ℕ) (later : List Place) (states : List State) → AreHinted numbers states → AreHinted numbers (undone_all later states)
hinted_undone_all numbers [] states h = h
hinted_undone_all numbers (p ∷ later) states h = hinted_undone numbers p.state (undone_all later states) (hinted_undone_all numbers later states h)

pub sound_rewound : (n : ℕ) (v : Log) (numbers : Prefix → List ℕ) → IsSound v numbers → IsSound (rewound n v) numbers
sound_rewound n v numbers h = let even = h.even in record {
  even = length-take n v.places ∙ (rw even refl) ∙ sym (length-take n v.numbers);
  hinted = hinted_undone_all numbers (drop n v.places) v.states h.hinted;
}
