-- Places in lists.
use Rattle.std.proofs.Common.{◌≡◌, ℕ, zero, suc, ◌<◌, Bool, true, false, not, List, [], ◌∷◌, ◌++◌, Some, refl, sym, ◌∙◌, ap, inl, inr, set, arith, subst}
use Rattle.std.specs.Prelude.{All, slice_get, length}
use Rattle.std.specs.List.{list_any, list_all}
use Rattle.std.specs.Cmp.Lexicographic.{bytes_decides}
use Rattle.std.proofs.lemmas.Bool.{and_parts, or_cases, or_left, or_right, cases_Bool}
use Rattle.std.proofs.lemmas.Option.{get_or_from_slice_get, slice_get_within}
use Rattle.journal.specs.declared.journal.body.Body.{Body}
use Rattle.journal.specs.Journal.Logs.{same_body}
use Rattle.journal.proofs.JournalLemmas.Different.{Differ}

pub all_at : {X : Type 0} (P : X → Type 0) (xs : List X) → All P xs → (n : ℕ) (x : X) → slice_get xs n ≡ Some x → P x
all_at P xs all n x at = subst P (get_or_from_slice_get xs n x x at) (all n x (slice_get_within xs n x at))

pub test_at : {X : Type 0} (q : X → Bool) (xs : List X) → list_all q xs ≡ true → (n : ℕ) (x : X) → slice_get xs n ≡ Some x → q x ≡ true
test_at q [] all n x at = cc
test_at q (y ∷ xs) all zero x at = let e : y ≡ x = cc in rw (← e) (and_parts (q y) (list_all q xs) all).0
test_at q (y ∷ xs) all (suc n) x at = test_at q xs (and_parts (q y) (list_all q xs) all).1 n x at

pub found_at : {X : Type 0} (q : X → Bool) (xs : List X) → list_any q xs ≡ true → (n : ℕ) × (x : X) × (slice_get xs n ≡ Some x) × (q x ≡ true)
found_at q [] h = cc
found_at q (y ∷ xs) h = elim (or_cases (q y) (list_any q xs) h) [
  | inl here ↦ (0, y, refl, here)
  | inr there ↦ (let f = found_at q xs there in (suc f.0, f.1, f.2, f.3))
]

pub any_at : {X : Type 0} (q : X → Bool) (xs : List X) (n : ℕ) (x : X) → slice_get xs n ≡ Some x → q x ≡ true → list_any q xs ≡ true
any_at q [] n x at h = cc
any_at q (y ∷ xs) zero x at h = let e : y ≡ x = cc in or_left _ _ (ap q e ∙ h)
any_at q (y ∷ xs) (suc n) x at h = or_right _ _ (any_at q xs n x at h)

-- bodies that differ pairwise have one place each
pub one_place : (held : List Body) → Differ same_body held → (m n : ℕ) (b c : Body) → slice_get held m ≡ Some b → slice_get held n ≡ Some c → b.bytes ≡ c.bytes → m ≡ n
one_place [] d m n b c at_b at_c same = cc
one_place (x ∷ xs) d zero zero b c at_b at_c same = refl
one_place (x ∷ xs) d zero (suc n) b c at_b at_c same =
    let e : x ≡ b = cc in
    let other = test_at (λ y. not (same_body x y)) xs d.0 n c at_c in
    let equal : same_body x c ≡ true = (bytes_decides x.bytes c.bytes).1 (ap (λ y. y.bytes) e ∙ same) in cc
one_place (x ∷ xs) d (suc m) zero b c at_b at_c same =
    let e : x ≡ c = cc in
    let other = test_at (λ y. not (same_body x y)) xs d.0 m b at_b in
    let equal : same_body x b ≡ true = (bytes_decides x.bytes b.bytes).1 (ap (λ y. y.bytes) e ∙ sym same) in cc
one_place (x ∷ xs) d (suc m) (suc n) b c at_b at_c same = ap (λ k. suc k) (one_place xs d.1 m n b c at_b at_c same)

pub one_body : (held : List Body) → Differ same_body held → (m n : ℕ) (b c : Body) → slice_get held m ≡ Some b → slice_get held n ≡ Some c → b.bytes ≡ c.bytes → b ≡ c
one_body held d m n b c at_b at_c same =
    let one = one_place held d m n b c at_b at_c same in
    let there : Some b ≡ Some c = sym at_b ∙ ap (slice_get held) one ∙ at_c in cc

pub others_differ : (held : List Body) → Differ same_body held → (n : ℕ) (b : Body) → slice_get held n ≡ Some b
    → (m : ℕ) (c : Body) → (m ≡ n → ⊥) → slice_get held m ≡ Some c → same_body b c ≡ false
others_differ held d n b at m c other e = elim (cases_Bool (same_body b c)) [
  | inr k ↦ k
  | inl k ↦ absurd (other (one_place held d m n c b e at (sym ((bytes_decides b.bytes c.bytes).0 k))))
]

-- the last place, and those before it
pub slice_get_last : {X : Type 0} (xs : List X) (x : X) → slice_get (xs ++ x ∷ []) (length xs) ≡ Some x
slice_get_last [] x = refl
slice_get_last (y ∷ xs) x = slice_get_last xs x

pub slice_get_before : {X : Type 0} (xs : List X) (x : X) (m : ℕ) (y : X) → (m ≡ length xs → ⊥) → slice_get (xs ++ x ∷ []) m ≡ Some y → slice_get xs m ≡ Some y
slice_get_before [] x zero y other e = absurd (other refl)
slice_get_before [] x (suc m) y other e = cc
slice_get_before (z ∷ xs) x zero y other e = e
slice_get_before (z ∷ xs) x (suc m) y other e = slice_get_before xs x m y (λ same. other (ap (λ k. suc k) same)) e

pub slice_get_front : {X : Type 0} (xs ys : List X) (m : ℕ) (y : X) → slice_get xs m ≡ Some y → slice_get (xs ++ ys) m ≡ Some y
slice_get_front [] ys m y e = cc
slice_get_front (z ∷ xs) ys zero y e = e
slice_get_front (z ∷ xs) ys (suc m) y e = slice_get_front xs ys m y e

pub set_here : {X : Type 0} (xs : List X) (n : ℕ) (x y : X) → slice_get xs n ≡ Some x → slice_get (set xs n y) n ≡ Some y
set_here [] n x y at = cc
set_here (z ∷ xs) zero x y at = refl
set_here (z ∷ xs) (suc n) x y at = set_here xs n x y at

pub set_there : {X : Type 0} (xs : List X) (n m : ℕ) (y : X) → (m ≡ n → ⊥) → slice_get (set xs n y) m ≡ slice_get xs m
set_there [] n m y other = refl
set_there (z ∷ xs) zero zero y other = absurd (other refl)
set_there (z ∷ xs) zero (suc m) y other = refl
set_there (z ∷ xs) (suc n) zero y other = refl
set_there (z ∷ xs) (suc n) (suc m) y other = set_there xs n m y (λ e. other (ap (λ k. suc k) e))

-- there is one at each place below the length
pub some_at : {X : Type 0} (xs : List X) (n : ℕ) → n < length xs → (x : X) × (slice_get xs n ≡ Some x)
some_at [] n below = absurd (omega (arith, below))
some_at (x ∷ xs) zero below = (x, refl)
some_at (x ∷ xs) (suc n) below = some_at xs n (omega (arith, below))

pub below_more : {X : Type 0} (f : X → ℕ) (xs : List X) (m n : ℕ) → m < n → All (λ x. f x < m) xs → All (λ x. f x < n) xs
below_more f xs m n le all = λ k d h. omega (arith, le, all k d h)
