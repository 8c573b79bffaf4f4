-- Places of what comes first.
use Rattle.std.proofs.Common.{◌≡◌, ℕ, suc, ◌+◌, Bool, true, false, ◌||◌, cond, List, [], ◌∷◌, ◌++◌, length, Option, Some, None, option_map, refl, sym, ◌∙◌, ap, arith, inl, inr}
use Rattle.std.specs.Prelude.{find, nat_le, nat_lt, position, if◌then◌else◌}
use Rattle.std.specs.List.{position_or_len}
use Rattle.std.proofs.lemmas.Bool.{cases_Bool}
use Rattle.std.proofs.lemmas.Bool.Decides.{nat_tests}
use Rattle.blame_core.specs.BlameCore.FirstSignatures.{at_place, earlier}

-- one place further on
abbrev next : Option ℕ → Option ℕ
next o = option_map (λ i. suc i) o

pub earlier_none : (o : Option ℕ) → earlier o None ≡ o
earlier_none None = refl
earlier_none (Some i) = refl

first_is_earlier : (o : Option ℕ) → earlier (Some 0) o ≡ Some 0
first_is_earlier None = refl
first_is_earlier (Some j) = (let low : nat_le 0 j ≡ true = grind (arith, nat_tests) in rw low refl)

first_is_later : (o : Option ℕ) → earlier (next o) (Some 0) ≡ Some 0
first_is_later None = refl
first_is_later (Some i) = (let high : nat_le (suc i) 0 ≡ false = grind (arith, nat_tests) in rw high refl)

next_earlier : (o p : Option ℕ) → next (earlier o p) ≡ earlier (next o) (next p)
next_earlier None p = refl
next_earlier (Some i) None = refl
next_earlier (Some i) (Some j) = elim (cases_Bool (nat_le i j)) [
  | inl k ↦ (let more : nat_le (suc i) (suc j) ≡ true = grind (arith, nat_tests, k) in rw (k, more) refl)
  | inr k ↦ (let more : nat_le (suc i) (suc j) ≡ false = grind (arith, nat_tests, k) in rw (k, more) refl)
]

shifted : (i n : ℕ) → cond (nat_lt (1 + i) (suc n)) (Some (1 + i)) None ≡ next (cond (nat_lt i n) (Some i) None)
shifted i n = (λ k. cond (nat_lt (one_more k) (suc n)) (Some (one_more k)) None) ∙ by
  where
    one_more : 1 + i ≡ suc i
    one_more = omega arith

    by : cond (nat_lt (suc i) (suc n)) (Some (suc i)) None ≡ next (cond (nat_lt i n) (Some i) None)
    by = elim (cases_Bool (nat_lt i n)) [
      | inl k ↦ (let more : nat_lt (suc i) (suc n) ≡ true = grind (arith, nat_tests, k) in rw (k, more) refl)
      | inr k ↦ (let more : nat_lt (suc i) (suc n) ≡ false = grind (arith, nat_tests, k) in rw (k, more) refl)
    ]

module _ {X : Type 0} where
  -- the place, element by element
  abbrev place_where : (X → Bool) → List X → Option ℕ
  place_where p [] = None
  place_where p (x ∷ xs) = cond (p x) (Some 0) (next (place_where p xs))

  position_is : (p : X → Bool) (xs : List X) → position p xs ≡ place_where p xs
  position_is p [] = refl
  position_is p (x ∷ xs) = elim (cases_Bool (p x)) [
    | inl k ↦ (let low : nat_lt 0 (suc (length xs)) ≡ true = grind (arith, nat_tests) in rw (k, low) refl)
    | inr k ↦ rw k (shifted (position_or_len p xs) (length xs) ∙ ap next (position_is p xs))
  ]

  -- one element more
  where_push : (p : X → Bool) (xs : List X) (x : X) → place_where p (xs ++ x ∷ []) ≡ earlier (place_where p xs) (if p x then Some (length xs) else None)
  where_push p [] x = refl
  where_push p (y ∷ xs) x = elim (cases_Bool (p y)) [
    | inl k ↦ rw k (sym (first_is_earlier (if p x then Some (suc (length xs)) else None)))
    | inr k ↦ rw k (ap next (where_push p xs x) ∙ next_earlier (place_where p xs) (if p x then Some (length xs) else None)
        ∙ ap (earlier (next (place_where p xs))) (moved (p x) (length xs)))
  ]
    where
      moved : (b : Bool) (n : ℕ) → next (if b then Some n else None) ≡ (if b then Some (suc n) else None)
      moved true n = refl
      moved false n = refl

  pub position_push : (p : X → Bool) (xs : List X) (x : X) → position p (xs ++ x ∷ []) ≡ earlier (position p xs) (if p x then Some (length xs) else None)
  position_push p xs x = position_is p (xs ++ x ∷ []) ∙ where_push p xs x
      ∙ ap (λ o. earlier o (if p x then Some (length xs) else None)) (sym (position_is p xs))

  -- no element passes
  pub position_never : (xs : List X) → position (λ x. false) xs ≡ None
  position_never xs = position_is (λ x. false) xs ∙ never xs
    where
      never : (xs : List X) → place_where (λ x. false) xs ≡ None
      never [] = refl
      never (x ∷ xs) = ap next (never xs)

  -- of two tests
  where_either : (p q : X → Bool) (xs : List X) → place_where (λ x. p x || q x) xs ≡ earlier (place_where p xs) (place_where q xs)
  where_either p q [] = refl
  where_either p q (x ∷ xs) = by (p x) (q x) (where_either p q xs)
    where
      by : (a b : Bool) → place_where (λ x. p x || q x) xs ≡ earlier (place_where p xs) (place_where q xs)
          → cond (a || b) (Some 0) (next (place_where (λ x. p x || q x) xs))
          ≡ earlier (cond a (Some 0) (next (place_where p xs))) (cond b (Some 0) (next (place_where q xs)))
      by true b ih = sym (first_is_earlier (cond b (Some 0) (next (place_where q xs))))
      by false true ih = sym (first_is_later (place_where p xs))
      by false false ih = ap next ih ∙ next_earlier (place_where p xs) (place_where q xs)

  pub position_either : (p q : X → Bool) (xs : List X) → position (λ x. p x || q x) xs ≡ earlier (position p xs) (position q xs)
  position_either p q xs = position_is (λ x. p x || q x) xs ∙ where_either p q xs ∙ (λ i. earlier (sym (position_is p xs) i) (sym (position_is q xs) i))

  -- what stands there is what is found
  pub at_position : (p : X → Bool) (xs : List X) → at_place xs (position p xs) ≡ find p xs
  at_position p xs = ap (at_place xs) (position_is p xs) ∙ by xs
    where
      further : (x : X) (xs : List X) (o : Option ℕ) → at_place (x ∷ xs) (next o) ≡ at_place xs o
      further x xs None = refl
      further x xs (Some i) = refl

      by : (xs : List X) → at_place xs (place_where p xs) ≡ find p xs
      by [] = refl
      by (x ∷ xs) = elim (cases_Bool (p x)) [
        | inl k ↦ rw k refl
        | inr k ↦ rw k (further x xs (place_where p xs) ∙ by xs)
      ]
