-- Lists with one more element, or with one changed.
use Rattle.std.proofs.Common.{◌≡◌, ℕ, zero, suc, ◌≤◌, ◌<◌, List, [], ◌∷◌, ◌++◌, take, drop, Some, refl, sym, ◌∙◌, ap, set, arith}
use Rattle.std.specs.Prelude.{slice_get}
use Rattle.validator_core.specs.Tables.AcceptedLog.Values.{at_place}

pub set_at_place : {X : Type 0} (f : X → X) (xs : List X) (k : ℕ) (x y : X) → slice_get xs k ≡ Some x → f x ≡ y → set xs k y ≡ at_place k f xs
set_at_place f [] k x y e h = refl
set_at_place f (z ∷ xs) zero x y e h = let is : z ≡ x = cc in ap (λ z. z ∷ xs) (sym h ∙ ap f (sym is))
set_at_place f (z ∷ xs) (suc k) x y e h = ap (λ xs. z ∷ xs) (set_at_place f xs k x y e h)

pub at_place_here : {X : Type 0} (f : X → X) (xs : List X) (k : ℕ) (x : X) → slice_get xs k ≡ Some x → slice_get (at_place k f xs) k ≡ Some (f x)
at_place_here f [] k x e = cc
at_place_here f (y ∷ xs) zero x e = let is : y ≡ x = cc in ap (λ x. Some (f x)) is
at_place_here f (y ∷ xs) (suc k) x e = at_place_here f xs k x e

pub at_place_there : {X : Type 0} (f : X → X) (xs : List X) (k i : ℕ) → (i ≡ k → ⊥) → slice_get (at_place k f xs) i ≡ slice_get xs i
at_place_there f [] k i h = refl
at_place_there f (x ∷ xs) zero zero h = absurd (h refl)
at_place_there f (x ∷ xs) zero (suc i) h = refl
at_place_there f (x ∷ xs) (suc k) zero h = refl
at_place_there f (x ∷ xs) (suc k) (suc i) h = at_place_there f xs k i (λ e. h (ap (λ n. suc n) e))

-- a change that another takes back
pub at_place_back : {X : Type 0} (f g : X → X) (xs : List X) (k : ℕ) (x : X) → slice_get xs k ≡ Some x → f (g x) ≡ x → at_place k f (at_place k g xs) ≡ xs
at_place_back f g [] k x e back = refl
at_place_back f g (y ∷ xs) zero x e back = let is : y ≡ x = cc in ap (λ z. z ∷ xs) (ap (λ z. f (g z)) is ∙ back ∙ sym is)
at_place_back f g (y ∷ xs) (suc k) x e back = ap (λ xs. y ∷ xs) (at_place_back f g xs k x e back)

-- what stands in the changed list stood there, under the same key
pub at_place_seen : {K X : Type 0} (key : X → K) (f : X → X) → ((x : X) → key (f x) ≡ key x) → (xs : List X) (k i : ℕ) (y : X) → slice_get (at_place k f xs) i ≡ Some y → (x : X) × (slice_get xs i ≡ Some x) × (key x ≡ key y)
at_place_seen key f same [] k i y e = cc
at_place_seen key f same (x ∷ xs) zero zero y e = let is : f x ≡ y = cc in (x, refl, sym (same x) ∙ ap key is)
at_place_seen key f same (x ∷ xs) zero (suc i) y e = (y, e, refl)
at_place_seen key f same (x ∷ xs) (suc k) zero y e = (y, e, refl)
at_place_seen key f same (x ∷ xs) (suc k) (suc i) y e = at_place_seen key f same xs k i y e

pub still_at : {X : Type 0} (xs ys : List X) (i : ℕ) (x : X) → slice_get xs i ≡ Some x → slice_get (xs ++ ys) i ≡ Some x
still_at [] ys i x e = cc
still_at (z ∷ xs) ys zero x e = e
still_at (z ∷ xs) ys (suc i) x e = still_at xs ys i x e

-- a list cut before a member
pub cut_at : {X : Type 0} (xs : List X) (i : ℕ) (x : X) → slice_get xs i ≡ Some x → xs ≡ take i xs ++ x ∷ drop (suc i) xs
cut_at [] i x e = cc
cut_at (y ∷ xs) zero x e = let is : y ≡ x = cc in ap (λ y. y ∷ xs) is
cut_at (y ∷ xs) (suc i) x e = ap (λ xs. y ∷ xs) (cut_at xs i x e)

-- the rest behind so many, in two parts
pub drop_parts : {X : Type 0} (m n : ℕ) (xs : List X) → m ≤ n → drop m xs ≡ drop m (take n xs) ++ drop n xs
drop_parts zero zero xs h = refl
drop_parts zero (suc n) [] h = refl
drop_parts zero (suc n) (x ∷ xs) h = ap (λ ys. x ∷ ys) (drop_parts zero n xs (omega arith))
drop_parts (suc m) zero xs h = absurd (omega (arith, h))
drop_parts (suc m) (suc n) [] h = refl
drop_parts (suc m) (suc n) (x ∷ xs) h = drop_parts m n xs (omega (arith, h))

-- a front of a changed list is the front, changed
pub take_at_place : {X : Type 0} (n k : ℕ) (f : X → X) (xs : List X) → take n (at_place k f xs) ≡ at_place k f (take n xs)
take_at_place zero k f [] = refl
take_at_place zero zero f (x ∷ xs) = refl
take_at_place zero (suc k) f (x ∷ xs) = refl
take_at_place (suc n) k f [] = refl
take_at_place (suc n) zero f (x ∷ xs) = refl
take_at_place (suc n) (suc k) f (x ∷ xs) = ap (λ ys. x ∷ ys) (take_at_place n k f xs)

-- and an element of a front stands before its end
pub front_within : {X : Type 0} (n : ℕ) (xs : List X) (i : ℕ) (x : X) → slice_get (take n xs) i ≡ Some x → i < n
front_within zero [] i x e = cc
front_within zero (y ∷ xs) i x e = cc
front_within (suc n) [] i x e = cc
front_within (suc n) (y ∷ xs) zero x e = omega arith
front_within (suc n) (y ∷ xs) (suc i) x e = let h = front_within n xs i x e in omega (arith, h)

-- the front that ends with a member
pub take_one_more : {X : Type 0} (xs : List X) (i : ℕ) (x : X) → slice_get xs i ≡ Some x → take (suc i) xs ≡ take i xs ++ x ∷ []
take_one_more [] i x e = cc
take_one_more (y ∷ xs) zero x e = let is : y ≡ x = cc in ap (λ y. y ∷ []) is
take_one_more (y ∷ xs) (suc i) x e = ap (λ ys. y ∷ ys) (take_one_more xs i x e)
