-- Two sets within a union: where each is large, they have more common members than there are bad ones, so some common
-- member is good.
use Rattle.std.proofs.Common.{◌≡◌, ℕ, zero, suc, ◌+◌, ◌<◌, ◌≤◌, Bool, true, false, not, cond, ◌&&◌, List, [], ◌∷◌, ◌++◌, length, Contains, refl, ◌∙◌, ap, arith, inl, inr}
use Rattle.std.specs.Prelude.{count_by, filter}
use Rattle.std.proofs.lemmas.List.Sums.{sum_by-cons}
use Rattle.std.proofs.lemmas.Bool.{cases_Bool, and_parts, and_from}
use Rattle.key_state.specs.Same.{distinct}

-- 1 where a test passes, else 0
abbrev one_if : Bool → ℕ
one_if b = cond b 1 0

-- how many pass, by recursion (`count_by` is a fold)
abbrev pub number : {X : Type 0} → (X → Bool) → List X → ℕ
number p [] = 0
number p (x ∷ xs) = one_if (p x) + number p xs

pub count_by-number : {X : Type 0} (p : X → Bool) (xs : List X) → count_by p xs ≡ number p xs
count_by-number p [] = refl
count_by-number p (x ∷ xs) = sum_by-cons (λ y. cond (p y) 1 0) x xs ∙ ap (λ n. one_if (p x) + n) (count_by-number p xs)

-- how many of those that pass the first test pass the second: as many as pass both
number-filter : {X : Type 0} (r p : X → Bool) (xs : List X) → number p (filter r xs) ≡ number (λ x. r x && p x) xs
number-filter r p [] = refl
number-filter r p (x ∷ xs) = elim (cases_Bool (r x)) [
  | inl h ↦ rw (h, number-filter r p xs) refl
  | inr h ↦ rw h (omega (arith, number-filter r p xs))
]

-- where one test implies another, no more pass it
pub number-le : {X : Type 0} (p q : X → Bool) → ((x : X) → p x ≡ true → q x ≡ true) → (xs : List X) → number p xs ≤ number q xs
number-le p q less [] = omega arith
number-le p q less (x ∷ xs) = elim (cases_Bool (p x)) [
  | inl h ↦ (let k = less x h in rw (h, k) (omega (arith, number-le p q less xs)))
  | inr h ↦ rw h (omega (arith, number-le p q less xs))
]

-- where all that a test leaves pass another, no more pass it
pub number-left : {X : Type 0} (p q : X → Bool) (xs : List X) → ((x : X) → Contains (filter p xs) x → q x ≡ true) → number p xs ≤ number q xs
number-left p q [] less = omega arith
number-left {X = X} p q (x ∷ xs) less = elim (cases_Bool (p x)) [
  | inl h ↦ (let all : (y : X) → Contains (x ∷ filter p xs) y → q y ≡ true = rw h at less in
      let here = all x (zero, omega arith, refl) in
      let rest = number-left p q xs (λ y c. all y (suc c.0, (let low = c.1 in omega arith), c.2)) in
      rw (h, here) (omega (arith, rest)))
  | inr h ↦ (let all : (y : X) → Contains (filter p xs) y → q y ≡ true = rw h at less in
      rw h (omega (arith, number-left p q xs all)))
]

-- of two tests, those that pass both are at least as many as those that pass each, less the whole
number-both : {X : Type 0} (p q : X → Bool) (xs : List X) → number p xs + number q xs ≤ length xs + number (λ x. p x && q x) xs
number-both p q [] = omega arith
number-both p q (x ∷ xs) = omega (arith, number-both p q xs, one (p x) (q x))
  where
    one : (a b : Bool) → one_if a + one_if b ≤ 1 + one_if (a && b)
    one true true = omega arith
    one true false = omega arith
    one false true = omega arith
    one false false = omega arith

-- those that pass a test, less those that pass another, pass the first alone
number-less : {X : Type 0} (p bad : X → Bool) (xs : List X) → number p xs ≤ number bad xs + number (λ x. p x && not (bad x)) xs
number-less p bad [] = omega arith
number-less p bad (x ∷ xs) = omega (arith, number-less p bad xs, one (p x) (bad x))
  where
    one : (a b : Bool) → one_if a ≤ one_if b + one_if (a && not b)
    one true true = omega arith
    one true false = omega arith
    one false true = omega arith
    one false false = omega arith

-- where some pass, one can be named
number-some : {X : Type 0} (p : X → Bool) (xs : List X) → 0 < number p xs → (x : X) × (p x ≡ true)
number-some p [] h = absurd (omega arith)
number-some p (x ∷ xs) h = elim (cases_Bool (p x)) [
  | inl k ↦ (x, k)
  | inr k ↦ number-some p xs (let h' : 0 < one_if false + number p xs = rw k at h in omega arith)
]

-- COMMON MEMBER: two large sets within a union of which few are bad have a common good member
pub common_good : {X : Type 0} (p q bad : X → Bool) (union : List X) (m n faulty : ℕ)
    → m ≤ number p union → n ≤ number q union → number bad union ≤ faulty → length union + faulty < m + n
    → (x : X) × ((p x && q x) && not (bad x) ≡ true)
common_good p q bad union m n faulty hp hq hb large = number-some (λ x. (p x && q x) && not (bad x)) union
    (omega (arith, number-both p q union, number-less (λ x. p x && q x) bad union))

module _ {X : Type 0} (same : X → X → Bool) (one : (x y : X) → same x y ≡ true → x ≡ y) where
  -- a list counts no more than with others behind it, each at its first coming
  pub number-distinct_left : (p : X → Bool) (v w : List X) → number p (distinct same v) ≤ number p (distinct same (v ++ w))
  unfolding distinct
  number-distinct_left p [] w = omega arith
  number-distinct_left p (x ∷ v) w =
      omega (
        arith,
        number-filter (λ y. not (same x y)) p (distinct same v),
        number-filter (λ y. not (same x y)) p (distinct same (v ++ w)),
        number-distinct_left (λ y. not (same x y) && p y) v w,
      )

  -- no more than one of a list is the same as x
  at_most_one : (p : X → Bool) (x : X) (w : List X) → number p (distinct same w) ≤ one_if (p x) + number (λ y. not (same x y) && p y) (distinct same w)
  unfolding distinct
  at_most_one p x [] = omega arith
  at_most_one p x (z ∷ w) =
      let rest = distinct same w in
      let e = number-filter (λ y. not (same z y)) p rest in
      let f = number-filter (λ y. not (same z y)) (λ y. not (same x y) && p y) rest in
      elim (cases_Bool (same x z)) [
        | inl h ↦ (let is : x ≡ z = one x z h in
            let le = number-le (λ y. not (same z y) && p y) (λ y. not (same z y) && (not (same x y) && p y))
            (λ y k. let parts = and_parts (not (same z y)) (p y) k in and_from _ _ parts.0 (and_from _ _ (rw is parts.0) parts.1)) rest in
            let head : one_if (p z) ≤ one_if (p x) = rw is (omega arith) in
            omega arith)
        | inr h ↦ (let le = number-le (λ y. not (same x y) && (not (same z y) && p y)) (λ y. not (same z y) && (not (same x y) && p y))
            (λ y k. let parts = and_parts (not (same x y)) _ k in let more = and_parts (not (same z y)) (p y) parts.1 in and_from _ _ more.0 (and_from _ _ parts.0 more.1)) rest in
            let ih = at_most_one (λ y. not (same z y) && p y) x w in
            rw h (omega (arith, both (not (same z x)) (p x))))
      ]
    where
      both : (a b : Bool) → one_if (a && b) ≤ one_if b
      both true b = omega arith
      both false b = omega arith

  -- a list counts no more than with others before it
  pub number-distinct_right : (p : X → Bool) (v w : List X) → number p (distinct same w) ≤ number p (distinct same (v ++ w))
  unfolding distinct
  number-distinct_right p [] w = omega arith
  number-distinct_right p (x ∷ v) w =
      omega (arith, number-filter (λ y. not (same x y)) p (distinct same (v ++ w)), at_most_one p x w, number-distinct_right (λ y. not (same x y) && p y) v w)
