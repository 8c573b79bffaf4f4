-- Adding a witness at its place.
use Rattle.std.proofs.Common.{◌≡◌, ℕ, zero, suc, ◌<◌, ◌≤◌, Bool, true, false, ◌&&◌, ◌||◌, not, List, [], ◌∷◌, None, length, get_or, refl, sym, ◌∙◌, ap, inl, inr, arith, position, nat_lt}
use Rattle.std.specs.Prelude.{filter, map}
use Rattle.std.specs.List.{position_or_len}
use Rattle.std.proofs.Math.ListN.{set}
use Rattle.std.proofs.Math.Bool.{or_assoc, or_comm, or-false}
use Rattle.std.proofs.lemmas.Bool.{cases_Bool, and_parts, or_parts, not-true, ltb-false}
use Rattle.cesr_codes.specs.declared.key.Key.{Key}
use Rattle.key_state.proofs.Same.{same_key_is, same_key_itself}
use Rattle.key_state.specs.Same.{same_key, has_key, is_fixed, are_witnesses}
use Rattle.event_backing.specs.Members.{keys_of, added_in, fresh_witness}
use Rattle.event_backing.specs.declared.witness.Witness.{Witness}
use Rattle.event_backing.proofs.Keys.{same_key-turned, same_key-moved, or_right, filter_alike}

-- the witness, now added
abbrev pub with_mark : Witness → Witness
with_mark w = record { key = w.key; added = true }

-- no member of a list of witnesses stands behind itself
not_behind : (w : Witness) (ws : List Witness) → are_witnesses (keys_of (w ∷ ws)) ≡ true → (has_key (keys_of ws) w.key ≡ false) × (are_witnesses (keys_of ws) ≡ true)
not_behind w ws h =
    let parts = and_parts (is_fixed w.key.code && not (has_key (keys_of ws) w.key)) (are_witnesses (keys_of ws)) h in
    let here = and_parts (is_fixed w.key.code) (not (has_key (keys_of ws) w.key)) parts.0 in
    (not-true _ here.1, parts.1)

or_twice : (a b : Bool) → (a || b) ≡ (a || b || a)
or_twice true b = refl
or_twice false true = refl
or_twice false false = refl

-- the keys stay
pub keys_of-marked : (ws : List Witness) (i : ℕ) (d : Witness) → keys_of (set ws i (with_mark (get_or ws i d))) ≡ keys_of ws
keys_of-marked [] i d = refl
keys_of-marked (w ∷ ws) zero d = refl
keys_of-marked (w ∷ ws) (suc i) d = ap (λ ks. w.key ∷ ks) (keys_of-marked ws i d)

-- the witness at the place is added, and no other
has_added-marked : (ws : List Witness) (i : ℕ) (d : Witness) (x : Key) → i < length ws
    → has_key (keys_of (added_in (set ws i (with_mark (get_or ws i d))))) x ≡ (has_key (keys_of (added_in ws)) x || same_key (get_or ws i d).key x)
has_added-marked [] i d x h = absurd (omega (arith, h))
has_added-marked (w ∷ ws) zero d x h = elim (cases_Bool w.added) [
  | inl t ↦ rw t (or_twice (same_key w.key x) (has_key (keys_of (added_in ws)) x))
  | inr f ↦ rw f (or_comm (same_key w.key x) (has_key (keys_of (added_in ws)) x))
]
has_added-marked (w ∷ ws) (suc i) d x h =
    let ih = has_added-marked ws i d x (omega (arith, h)) in
    elim (cases_Bool w.added) [ inl t ↦ rw (t, ih) (sym (or_assoc (same_key w.key x) (has_key (keys_of (added_in ws)) x) (same_key (get_or ws i d).key x))) | inr f ↦ rw f ih ]

-- a key that was added stands in the list
stands : (ws : List Witness) (x : Key) → has_key (keys_of ws) x ≡ false → has_key (keys_of (added_in ws)) x ≡ false
stands [] x h = refl
stands (w ∷ ws) x h =
    let parts = or_parts (same_key w.key x) (has_key (keys_of ws) x) h in
    let other = parts.0 in
    let ih = stands ws x parts.1 in
    elim (cases_Bool w.added) [ inl t ↦ rw (t, other) ih | inr f ↦ rw f ih ]

-- a filter's first element
passes : (p : Key → Bool) (x : Key) (xs ys : List Key) → p x ≡ true → x ∷ filter p xs ≡ ys → filter p (x ∷ xs) ≡ ys
passes p x xs ys h e = rw h e

fails : (p : Key → Bool) (x : Key) (xs ys : List Key) → p x ≡ false → filter p xs ≡ ys → filter p (x ∷ xs) ≡ ys
fails p x xs ys h e = rw h e

-- the added witnesses are the members that were added
added-distinct : (ws : List Witness) → are_witnesses (keys_of ws) ≡ true → filter (has_key (keys_of (added_in ws))) (keys_of ws) ≡ keys_of (added_in ws)
added-distinct [] h = refl
added-distinct (w ∷ ws) h =
    let parts = not_behind w ws h in
    let ih = added-distinct ws parts.1 in
    let itself = same_key_itself w.key in
    elim (cases_Bool w.added) [
      | inl t ↦ (let further : filter (has_key (keys_of (added_in (w ∷ ws)))) (keys_of ws) ≡ filter (has_key (keys_of (added_in ws))) (keys_of ws)
          = filter_alike _ _ (keys_of ws) (λ x k. let other = apart w ws x parts.0 k in rw (t, other) refl) in
          let here : has_key (keys_of (added_in (w ∷ ws))) w.key ≡ true = rw (t, itself) refl in
          let last : w.key ∷ keys_of (added_in ws) ≡ keys_of (added_in (w ∷ ws)) = rw t refl in
          passes (has_key (keys_of (added_in (w ∷ ws)))) w.key (keys_of ws) _ here (ap (λ ks. w.key ∷ ks) (further ∙ ih) ∙ last))
      | inr f ↦ (let further : filter (has_key (keys_of (added_in (w ∷ ws)))) (keys_of ws) ≡ filter (has_key (keys_of (added_in ws))) (keys_of ws)
          = filter_alike _ _ (keys_of ws) (λ x k. rw f refl) in
          let none = stands ws w.key parts.0 in
          let here : has_key (keys_of (added_in (w ∷ ws))) w.key ≡ false = rw f none in
          let last : keys_of (added_in ws) ≡ keys_of (added_in (w ∷ ws)) = rw f refl in
          fails (has_key (keys_of (added_in (w ∷ ws)))) w.key (keys_of ws) _ here (further ∙ ih ∙ last))
    ]
  where
    apart : (w : Witness) (ws : List Witness) (x : Key) → has_key (keys_of ws) w.key ≡ false → has_key (keys_of ws) x ≡ true → same_key w.key x ≡ false
    apart w ws x n k = elim (cases_Bool (same_key w.key x)) [
      | inl s ↦ cc (ap (has_key (keys_of ws)) (same_key_is w.key x s), n, k)
      | inr s ↦ s
    ]

-- what is added once the witness at a place is
pub added-marked : (ws : List Witness) (i : ℕ) (d : Witness) (key : Key) → are_witnesses (keys_of ws) ≡ true → i < length ws → same_key (get_or ws i d).key key ≡ true
    → keys_of (added_in (set ws i (with_mark (get_or ws i d)))) ≡ filter (λ w. has_key (keys_of (added_in ws)) w || same_key w key) (keys_of ws)
added-marked ws i d key h at same =
    let after = set ws i (with_mark (get_or ws i d)) in
    let keys : keys_of after ≡ keys_of ws = keys_of-marked ws i d in
    let distinct : are_witnesses (keys_of after) ≡ true = ap are_witnesses keys ∙ h in
    let turned : (x : Key) → same_key (get_or ws i d).key x ≡ same_key x key = λ x. same_key-moved (get_or ws i d).key key x same ∙ same_key-turned key x in
    sym (added-distinct after distinct)
    ∙ ap (filter (has_key (keys_of (added_in after)))) keys
    ∙ filter_alike _ _ (keys_of ws) (λ x k. has_added-marked ws i d x at ∙ ap (λ b. has_key (keys_of (added_in ws)) x || b) (turned x))

-- what is added once a key is that stands nowhere
pub added-other : (ws : List Witness) (key : Key) → are_witnesses (keys_of ws) ≡ true → has_key (keys_of ws) key ≡ false
    → keys_of (added_in ws) ≡ filter (λ w. has_key (keys_of (added_in ws)) w || same_key w key) (keys_of ws)
added-other ws key h none = sym (added-distinct ws h) ∙ filter_alike _ _ (keys_of ws) (λ x k. rw (elsewhere x k) (sym (or-false _)))
  where
    elsewhere : (x : Key) → has_key (keys_of ws) x ≡ true → same_key x key ≡ false
    elsewhere x k = elim (cases_Bool (same_key x key)) [
      | inl s ↦ cc (ap (has_key (keys_of ws)) (same_key_is x key s), none, k)
      | inr s ↦ s
    ]

-- the key of the witness at a place stands in the list, and was added where the witness was
pub has_key-at : (ws : List Witness) (i : ℕ) (d : Witness) (key : Key) → i < length ws → same_key (get_or ws i d).key key ≡ true → has_key (keys_of ws) key ≡ true
has_key-at [] i d key at same = absurd (omega (arith, at))
has_key-at (w ∷ ws) zero d key at same = rw same refl
has_key-at (w ∷ ws) (suc i) d key at same = or_right (same_key w.key key) (has_key (keys_of ws) key) (has_key-at ws i d key (omega (arith, at)) same)

pub has_added-at : (ws : List Witness) (i : ℕ) (d : Witness) (key : Key) → are_witnesses (keys_of ws) ≡ true → i < length ws → same_key (get_or ws i d).key key ≡ true
    → has_key (keys_of (added_in ws)) key ≡ (get_or ws i d).added
has_added-at [] i d key h at same = absurd (omega (arith, at))
has_added-at (w ∷ ws) zero d key h at same =
    let parts = not_behind w ws h in
    elim (cases_Bool w.added) [
      | inl t ↦ rw (t, same) refl
      | inr f ↦ rw f (stands ws key (ap (has_key (keys_of ws)) (sym (same_key_is w.key key same)) ∙ parts.0))
    ]
has_added-at (w ∷ ws) (suc i) d key h at same =
    let parts = not_behind w ws h in
    let ih = has_added-at ws i d key parts.1 (omega (arith, at)) same in
    let there = has_key-at ws i d key (omega (arith, at)) same in
    let other : same_key w.key key ≡ false = elim (cases_Bool (same_key w.key key)) as (λ _. same_key w.key key ≡ false) [
      | inl s ↦ cc (ap (has_key (keys_of ws)) (same_key_is w.key key s), parts.0, there)
      | inr s ↦ s
    ] in
    elim (cases_Bool w.added) [ inl t ↦ rw (t, other) ih | inr f ↦ rw f ih ]

-- a key with no place stands nowhere
pub none-nowhere : (ws : List Witness) (key : Key) → position (λ w. same_key w.key key) ws ≡ None → has_key (keys_of ws) key ≡ false
none-nowhere ws key none = elim (cases_Bool (nat_lt (position_or_len (λ w. same_key w.key key) ws) (length ws))) [
  | inl t ↦ cc (rw t at none)
  | inr f ↦ by_length ws (ltb-false _ _ f)
]
  where
    by_length : (ws : List Witness) → length ws ≤ position_or_len (λ w. same_key w.key key) ws → has_key (keys_of ws) key ≡ false
    by_length [] h = refl
    by_length (w ∷ ws) h = elim (cases_Bool (same_key w.key key)) [
      | inl t ↦ absurd (omega (arith, rw t at h))
      | inr f ↦ (let h' = rw f at h in rw f (by_length ws (omega (arith, h'))))
    ]

-- witnesses none of which was added
pub keys_of-fresh : (list : List Key) → keys_of (map fresh_witness list) ≡ list
keys_of-fresh [] = refl
keys_of-fresh (k ∷ list) = ap (λ ks. k ∷ ks) (keys_of-fresh list)

pub added_in-fresh : (list : List Key) → keys_of (added_in (map fresh_witness list)) ≡ []
added_in-fresh [] = refl
added_in-fresh (k ∷ list) = added_in-fresh list
