-- Rising numbers: those below a number, one more, and one less.
use Rattle.std.proofs.Common.{◌≡◌, ℕ, Bool, true, false, List, [], ◌∷◌, ◌++◌, take, drop, zero, suc, refl, sym, subst, inl, inr, arith, nat_lt}
use Rattle.std.specs.Prelude.{◌⊎◌, ◌↔◌, insert, filter, Contains}
use Rattle.std.specs.List.Sorted.{IsStrictlyIncreasing, IsPartitionedBy}
use Rattle.std.proofs.lemmas.Bool.{cases_Bool, cases_lt, ltb-true, lt-ltb}
use Rattle.std.proofs.lemmas.List.{take-append-drop}
use Rattle.std.proofs.lemmas.List.Elements.{Contains-append_cases, Contains-append_left, Contains-append_right}
use Rattle.std.proofs.lemmas.Map.Keys.{below_from_sorted, sorted_from_strictly_increasing}

-- the lesser of rising numbers come first
pub parted : (ks : List ℕ) (n : ℕ) → IsStrictlyIncreasing ks → IsPartitionedBy (λ k. nat_lt k n) ks
parted ks n rising i j d order within low = elim (cases_lt i j) [
  | inl before ↦ let less = below_from_sorted ks i j d (sorted_from_strictly_increasing ks rising) before within in lt-ltb _ _ (omega (arith, less, ltb-true _ _ low))
  | inr after ↦ let same : i ≡ j = omega arith in rw same low
]

-- what a list of one element contains
pub Contains-one : {X : Type 0} (x y : X) → Contains (x ∷ []) y → x ≡ y
Contains-one x y (zero, h, e) = e
Contains-one x y (suc k, h, e) = absurd (omega (arith, h))

-- what a list contains: its first element, or what the rest does
pub Contains-cons : {X : Type 0} (x : X) (xs : List X) (y : X) → Contains (x ∷ xs) y ↔ ((x ≡ y) ⊎ Contains xs y)
Contains-cons x xs y = (
  λ h. elim (Contains-append_cases (x ∷ []) xs y h) [ inl one ↦ inl (Contains-one x y one) | inr rest ↦ inr rest ],
  λ h. elim h [
    | inl same ↦ Contains-append_left (x ∷ []) xs y (0, omega arith, same)
    | inr rest ↦ Contains-append_right (x ∷ []) xs y rest
  ],
)

-- the numbers of a list with one more
pub Contains-insert : (ks : List ℕ) (i n q : ℕ) → Contains (insert ks i n) q ↔ ((q ≡ n) ⊎ Contains ks q)
Contains-insert ks i n q = (
  λ h. elim (Contains-append_cases (take i ks) (n ∷ drop i ks) q h) [
    | inl low ↦ inr (whole (Contains-append_left (take i ks) (drop i ks) q low))
    | inr rest ↦ elim ((Contains-cons n (drop i ks) q).0 rest) [
      | inl same ↦ inl (sym same)
      | inr high ↦ inr (whole (Contains-append_right (take i ks) (drop i ks) q high))
    ]
  ],
  λ h. elim h [
    | inl same ↦ Contains-append_right (take i ks) (n ∷ drop i ks) q ((Contains-cons n (drop i ks) q).1 (inl (sym same)))
    | inr held ↦ elim (Contains-append_cases (take i ks) (drop i ks) q (subst (λ xs. Contains xs q) (sym (take-append-drop i ks)) held)) [
      | inl low ↦ Contains-append_left (take i ks) (n ∷ drop i ks) q low
      | inr high ↦ Contains-append_right (take i ks) (n ∷ drop i ks) q ((Contains-cons n (drop i ks) q).1 (inr high))
    ]
  ],
)
  where
    whole : Contains (take i ks ++ drop i ks) q → Contains ks q
    whole h = subst (λ xs. Contains xs q) (take-append-drop i ks) h

-- what passes a test
pub Contains-filter : {X : Type 0} (p : X → Bool) (xs : List X) (y : X) → Contains (filter p xs) y ↔ ((p y ≡ true) × Contains xs y)
Contains-filter p [] y = (λ h. absurd (omega (arith, h.1)), λ h. absurd (omega (arith, h.1.1)))
Contains-filter p (x ∷ xs) y =
    let rest = Contains-filter p xs y in
    elim (cases_Bool (p x)) [
      | inl t ↦ (
        λ h. elim ((Contains-cons x (filter p xs) y).0 (subst (λ ys. Contains ys y) (with_it t) h)) [
          | inl same ↦ (subst (λ z. p z ≡ true) same t, (Contains-cons x xs y).1 (inl same))
          | inr more ↦ let both = rest.0 more in (both.0, (Contains-cons x xs y).1 (inr both.1))
        ],
        λ h. subst (λ ys. Contains ys y) (sym (with_it t)) ((Contains-cons x (filter p xs) y).1 (elim ((Contains-cons x xs y).0 h.1) [ inl same ↦ inl same | inr more ↦ inr (rest.1 (h.0, more)) ])),
      )
      | inr f ↦ (
        λ h. let both = rest.0 (subst (λ ys. Contains ys y) (without_it f) h) in (both.0, (Contains-cons x xs y).1 (inr both.1)),
        λ h. subst (λ ys. Contains ys y) (sym (without_it f)) (elim ((Contains-cons x xs y).0 h.1) [
          | inl same ↦ absurd (no (subst (λ z. p z ≡ false) same f) h.0)
          | inr more ↦ rest.1 (h.0, more)
        ]),
      )
    ]
  where
    with_it : p x ≡ true → filter p (x ∷ xs) ≡ x ∷ filter p xs
    with_it t = rw t refl

    without_it : p x ≡ false → filter p (x ∷ xs) ≡ filter p xs
    without_it f = rw f refl

    no : {b : Bool} → b ≡ false → b ≡ true → ⊥
    no f t = cc (f, t)
