-- Lists of which something is so of all, or of one, and lists that are gone through one by one.
use Rattle.std.proofs.Common.{◌≡◌, ℕ, zero, suc, ◌+◌, ◌<◌, List, [], ◌∷◌, ◌++◌, take, drop, length, map, get_or, inl, inr, refl, sym, ap, subst, ◌∙◌, arith, add-one, drop-cons, append-nil}
use Rattle.std.specs.List.{AllByRecursion, flat_map, sum_by}
use Rattle.std.proofs.lemmas.List.{take_more, take-append-drop}
use Rattle.std.proofs.lemmas.List.Concat.{flat_map-append}
use Rattle.std.proofs.lemmas.List.Sums.{sum_by_push, sum_by-cons}
use Rattle.sith.specs.Rules.{AnyByRecursion}

module _ {A : Type 0} (P : A → Type 0) where
  pub all_at : (xs : List A) (i : ℕ) (x : A) → AllByRecursion P xs → i < length xs → x ≡ get_or xs i x → P x
  all_at [] i x all within is = absurd (omega arith)
  all_at (y ∷ xs) zero x all within is = subst P (sym is) all.0
  all_at (y ∷ xs) (suc i) x all within is = all_at xs i x all.1 (omega arith) is

  pub All-append : (xs ys : List A) → AllByRecursion P xs → AllByRecursion P ys → AllByRecursion P (xs ++ ys)
  All-append [] ys here there = there
  All-append (x ∷ xs) ys here there = (here.0, All-append xs ys here.1 there)

  pub All-parts : (xs ys : List A) → AllByRecursion P (xs ++ ys) → AllByRecursion P xs × AllByRecursion P ys
  All-parts [] ys all = (tt, all)
  All-parts (x ∷ xs) ys all = let rest = All-parts xs ys all.1 in ((all.0, rest.0), rest.1)

  pub Any-front : (xs ys : List A) → AnyByRecursion P xs → AnyByRecursion P (xs ++ ys)
  Any-front [] ys any = absurd any
  Any-front (x ∷ xs) ys (inl here) = inl here
  Any-front (x ∷ xs) ys (inr there) = inr (Any-front xs ys there)

  pub Any-behind : (xs ys : List A) → AnyByRecursion P ys → AnyByRecursion P (xs ++ ys)
  Any-behind [] ys any = any
  Any-behind (x ∷ xs) ys any = inr (Any-behind xs ys any)

module _ {A B : Type 0} (f : A → List B) (P : B → Type 0) where
  -- what is so of all in the lists is so of all in each
  pub all_in : (xs : List A) → AllByRecursion P (flat_map f xs) → AllByRecursion (λ x. AllByRecursion P (f x)) xs
  all_in [] all = tt
  all_in (x ∷ xs) all = let parts = All-parts P (f x) (flat_map f xs) all in (parts.0, all_in xs parts.1)

module _ {A : Type 0} (xs : List A) (i : ℕ) (x : A) (within : i < length xs) (is : x ≡ get_or xs i x) where
  pub taken : take (i + 1) xs ≡ take i xs ++ x ∷ []
  taken = take_more xs i x within ∙ ap (λ y. take i xs ++ y ∷ []) (sym is)

  pub dropped : drop i xs ≡ x ∷ drop (i + 1) xs
  dropped = drop-cons xs i x within ∙ ap (λ y. y ∷ drop (suc i) xs) (sym is) ∙ ap (λ n. x ∷ drop n xs) (sym (add-one i))

  pub split : xs ≡ take i xs ++ x ∷ drop (i + 1) xs
  split = sym (take-append-drop i xs) ∙ ap (λ l. take i xs ++ l) dropped

  pub sum_taken : (f : A → ℕ) → sum_by f (take (i + 1) xs) ≡ sum_by f (take i xs) + f x
  sum_taken f = ap (sum_by f) taken ∙ sum_by_push f (take i xs) x

  pub sum_dropped : (f : A → ℕ) → sum_by f (drop i xs) ≡ f x + sum_by f (drop (i + 1) xs)
  sum_dropped f = ap (sum_by f) dropped ∙ sum_by-cons f x (drop (i + 1) xs)

  module _ {B : Type 0} (f : A → List B) where
    pub flat_taken : flat_map f (take (i + 1) xs) ≡ flat_map f (take i xs) ++ f x
    flat_taken = ap (flat_map f) taken ∙ flat_map-append f (take i xs) (x ∷ []) ∙ ap (λ l. flat_map f (take i xs) ++ l) (append-nil (f x))

module _ {A B : Type 0} (f : A → B) (IsValid : A → Type 0) (one : (a b : A) → IsValid a → IsValid b → f a ≡ f b → a ≡ b) where
  -- lists of values that are the same are lists of the same
  pub map_injective : (xs ys : List A) → AllByRecursion IsValid xs → AllByRecursion IsValid ys → map f xs ≡ map f ys → xs ≡ ys
  map_injective [] [] ix iy e = refl
  map_injective [] (y ∷ ys) ix iy e = cc e
  map_injective (x ∷ xs) [] ix iy e = cc e
  map_injective (x ∷ xs) (y ∷ ys) ix iy e =
      let first : f x ≡ f y = cc e in
      let rest : map f xs ≡ map f ys = cc e in
      let head = one x y ix.0 iy.0 first in
      let tail = map_injective xs ys ix.1 iy.1 rest in
      cc (head, tail)

-- a list of one
pub one_item : {A : Type 0} (xs : List A) (x : A) → length xs ≡ 1 → x ≡ get_or xs 0 x → xs ≡ x ∷ []
one_item [] x one is = absurd (omega (arith, one))
one_item (y ∷ []) x one is = ap (λ z. z ∷ []) (sym is)
one_item (y ∷ z ∷ xs) x one is = absurd (omega (arith, one))

-- as many ones as a list is long
pub sum_by_ones : {A : Type 0} (f : A → ℕ) → ((x : A) → f x ≡ 1) → (xs : List A) → sum_by f xs ≡ length xs
sum_by_ones f one [] = refl
sum_by_ones f one (x ∷ xs) = omega (arith, sum_by-cons f x xs, one x, sum_by_ones f one xs)
