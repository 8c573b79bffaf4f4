-- Lists with one element changed, longer by one, or cut.
use Rattle.std.proofs.Common.{◌≡◌, ℕ, zero, suc, ◌+◌, ◌<◌, ◌≤◌, Bool, true, false, cond, ◌||◌, List, [], ◌∷◌, ◌++◌, length, map, take, Some, refl, sym, ◌∙◌, ap, set, inl, inr, arith}
use Rattle.std.specs.Prelude.{slice_get, count_by, nat_lt, ◌==◌}
use Rattle.std.specs.List.{list_any}
use Rattle.std.proofs.lemmas.Bool.{cases_Bool, lt-ltb}
use Rattle.std.proofs.lemmas.List.Sums.{sum_by-cons, sum_by_push}
use Rattle.std.proofs.lemmas.Bool.Decides.{nat_tests}
use Rattle.claim_table.specs.ClaimTable.Entries.{bit}
use Rattle.claim_table.specs.ClaimTable.Keeping.{at_place}

pub differ : (m n : ℕ) → (m ≡ n → ⊥) → (m == n) ≡ false
differ m n h = grind (arith, nat_tests, h)

pub set_at_place : {X : Type 0} (f : X → X) (xs : List X) (k : ℕ) (x y : X) → slice_get xs k ≡ Some x → f x ≡ y → set xs k y ≡ at_place k f xs
set_at_place f [] k x y e h = refl
set_at_place f (z ∷ xs) zero x y e h = let is : z ≡ x = cc in ap (λ z. z ∷ xs) (sym h ∙ ap f (sym is))
set_at_place f (z ∷ xs) (suc k) x y e h = ap (λ xs. z ∷ xs) (set_at_place f xs k x y e h)

-- where the element of the place stays
pub at_place_same : {X : Type 0} (f : X → X) (xs : List X) (k : ℕ) → ((x : X) → slice_get xs k ≡ Some x → f x ≡ x) → at_place k f xs ≡ xs
at_place_same f [] k same = refl
at_place_same f (x ∷ xs) zero same = ap (λ x. x ∷ xs) (same x refl)
at_place_same f (x ∷ xs) (suc k) same = ap (λ xs. x ∷ xs) (at_place_same f xs k same)

pub at_place_there : {X : Type 0} (f : X → X) (xs : List X) (k i : ℕ) → (i ≡ k → ⊥) → slice_get (at_place k f xs) i ≡ slice_get xs i
at_place_there f [] k i h = refl
at_place_there f (x ∷ xs) zero zero h = absurd (h refl)
at_place_there f (x ∷ xs) zero (suc i) h = refl
at_place_there f (x ∷ xs) (suc k) zero h = refl
at_place_there f (x ∷ xs) (suc k) (suc i) h = at_place_there f xs k i (λ e. h (ap (λ n. suc n) e))

-- what stands at the changed place is what the change makes of something
pub at_place_made : {X : Type 0} (f : X → X) (xs : List X) (k : ℕ) (y : X) → slice_get (at_place k f xs) k ≡ Some y → (x : X) × (y ≡ f x)
at_place_made f [] k y e = cc
at_place_made f (x ∷ xs) zero y e = let is : f x ≡ y = cc in (x, sym is)
at_place_made f (x ∷ xs) (suc k) y e = at_place_made f xs k y e

-- a change that is made again changes no more
pub map_at_place : {X : Type 0} (f : X → X) (xs : List X) (k : ℕ) → ((x : X) → f (f x) ≡ f x) → map f (at_place k f xs) ≡ map f xs
map_at_place f [] k again = refl
map_at_place f (x ∷ xs) zero again = ap (λ x. x ∷ map f xs) (again x)
map_at_place f (x ∷ xs) (suc k) again = ap (λ xs. f x ∷ xs) (map_at_place f xs k again)

-- what each element is, the map leaves
pub map_same : {X : Type 0} (f : X → X) (xs : List X) → ((i : ℕ) (x : X) → slice_get xs i ≡ Some x → f x ≡ x) → map f xs ≡ xs
map_same f [] same = refl
map_same f (x ∷ xs) same = let first = same 0 x refl in let rest = map_same f xs (λ i y at. same (suc i) y at) in λ i. first i ∷ rest i

pub map_back : {X : Type 0} (f g : X → X) (xs : List X) → ((i : ℕ) (x : X) → slice_get xs i ≡ Some x → g (f x) ≡ x) → map g (map f xs) ≡ xs
map_back f g [] back = refl
map_back f g (x ∷ xs) back = let first = back 0 x refl in let rest = map_back f g xs (λ i y at. back (suc i) y at) in λ i. first i ∷ rest i

pub take_map : {X Y : Type 0} (f : X → Y) (n : ℕ) (xs : List X) → take n (map f xs) ≡ map f (take n xs)
take_map f zero xs = refl
take_map f (suc n) [] = refl
take_map f (suc n) (x ∷ xs) = ap (λ xs. f x ∷ xs) (take_map f n xs)

pub take_before : {X : Type 0} (xs ys : List X) (i : ℕ) → i ≤ length xs → take i (xs ++ ys) ≡ take i xs
take_before xs ys zero h = refl
take_before [] ys (suc i) h = absurd (omega (arith, h))
take_before (x ∷ xs) ys (suc i) h = ap (λ xs. x ∷ xs) (take_before xs ys i (omega (arith, h)))

-- none passes, where none at any place does; some does, where one does
pub any_none : {X : Type 0} (test : X → Bool) (xs : List X) → ((i : ℕ) (x : X) → slice_get xs i ≡ Some x → test x ≡ false) → list_any test xs ≡ false
any_none test [] h = refl
any_none test (x ∷ xs) h = let here = h 0 x refl in let more = any_none test xs (λ i y e. h (suc i) y e) in rw (here, more) refl

or_true : (b : Bool) → (b || true) ≡ true
or_true true = refl
or_true false = refl

pub any_some : {X : Type 0} (test : X → Bool) (xs : List X) (i : ℕ) (x : X) → slice_get xs i ≡ Some x → test x ≡ true → list_any test xs ≡ true
any_some test [] i x e h = cc
any_some test (y ∷ xs) zero x e h = let is : y ≡ x = cc in let here = ap test is ∙ h in rw here refl
any_some test (y ∷ xs) (suc i) x e h = let more = any_some test xs i x e h in rw more (or_true (test y))

pub any_front : {X : Type 0} (test : X → Bool) (n : ℕ) (xs : List X) → list_any test (take n xs) ≡ true → list_any test xs ≡ true
any_front test zero xs h = cc
any_front test (suc n) [] h = h
any_front test (suc n) (x ∷ xs) h = elim (cases_Bool (test x)) [
  | inl k ↦ rw k refl
  | inr k ↦ (let more = any_front test n xs (sym (ap (λ b. b || list_any test (take n xs)) k) ∙ h) in rw (k, more) refl)
]

pub count_cons : {X : Type 0} (test : X → Bool) (x : X) (xs : List X) → count_by test (x ∷ xs) ≡ bit (test x) + count_by test xs
count_cons test x xs = sum_by-cons (λ x. cond (test x) 1 0) x xs

pub any_count : {X : Type 0} (test : X → Bool) (xs : List X) → list_any test xs ≡ nat_lt 0 (count_by test xs)
any_count test [] = refl
any_count test (x ∷ xs) = sym (ap (nat_lt 0) (count_cons test x xs) ∙ by (test x) (any_count test xs))
  where
    by : (b : Bool) → list_any test xs ≡ nat_lt 0 (count_by test xs) → nat_lt 0 (bit b + count_by test xs) ≡ (b || list_any test xs)
    by true more = let lt : 0 < 1 + count_by test xs = omega arith in lt-ltb 0 (1 + count_by test xs) lt
    by false more = let sum : 0 + count_by test xs ≡ count_by test xs = omega arith in ap (nat_lt 0) sum ∙ sym more

pub count_end : {X : Type 0} (test : X → Bool) (xs : List X) (x : X) → count_by test (xs ++ x ∷ []) ≡ count_by test xs + bit (test x)
count_end test xs x = sum_by_push (λ x. cond (test x) 1 0) xs x

pub count_at : {X : Type 0} (test : X → Bool) (f : X → X) (xs : List X) (k : ℕ) (x : X) → slice_get xs k ≡ Some x → count_by test (at_place k f xs) + bit (test x) ≡ count_by test xs + bit (test (f x))
count_at test f [] k x e = cc
count_at test f (y ∷ xs) zero x e =
    let is : y ≡ x = cc in let a = ap (λ z. bit (test z)) is in let b = ap (λ z. bit (test (f z))) is in
    let old = count_cons test y xs in let new = count_cons test (f y) xs in omega (arith, a, b, old, new)
count_at test f (y ∷ xs) (suc k) x e = let more = count_at test f xs k x e in let old = count_cons test y xs in let new = count_cons test y (at_place k f xs) in omega (arith, more, old, new)

-- what passes is counted
pub bit_within : {X : Type 0} (test : X → Bool) (xs : List X) (k : ℕ) (x : X) → slice_get xs k ≡ Some x → bit (test x) ≤ count_by test xs
bit_within test [] k x e = cc
bit_within test (y ∷ xs) zero x e = let is : y ≡ x = cc in let a = ap (λ z. bit (test z)) is in let all = count_cons test y xs in omega (arith, a, all)
bit_within test (y ∷ xs) (suc k) x e = let more = bit_within test xs k x e in let all = count_cons test y xs in omega (arith, more, all)

pub length-at_place : {X : Type 0} (f : X → X) (xs : List X) (k : ℕ) → length (at_place k f xs) ≡ length xs
length-at_place f [] k = refl
length-at_place f (x ∷ xs) zero = refl
length-at_place f (x ∷ xs) (suc k) = ap suc (length-at_place f xs k)
