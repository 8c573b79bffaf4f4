-- Lists in order: with the same elements they are one list, where the order tells elements apart.
use Rattle.std.proofs.Common.{◌≡◌, ℕ, ◌≤◌, ◌⊎◌, suc, Bool, true, false, List, [], ◌∷◌, Ordering, refl, sym, ◌∙◌, ap, subst, arith, inl, inr}
use Rattle.std.specs.Prelude.{All, AllPairs, sum_by}
use Rattle.std.specs.declared.cmp.Ordering.TheVariants.{Less, Equal, Greater}
use Rattle.std.specs.Cmp.{Equal-is, IsTotalOrder}
use Rattle.std.specs.List.Sorted.{IsPermutation, IsSorted}
use Rattle.std.specs.Ordering.{is_eq, is_lt, ordering_reverse}
use Rattle.std.proofs.lemmas.Bool.{cases_Bool}
use Rattle.std.proofs.lemmas.Cmp.{tied_back, tied_itself}
use Rattle.std.proofs.lemmas.List.Sorted.{ranks_by, sorted_far, sum_by-IsPermutation}
use Rattle.std.proofs.lemmas.List.Sums.{sum_by-cons}
use Rattle.key_state.proofs.Among.{Among, contained}

-- what all elements have a member has
pub all_at : {X : Type 0} (P : X → Type 0) (xs : List X) (x : X) → All P xs → Among x xs → P x
all_at P xs x all m = (let c = contained xs x m in subst P c.2 (all c.0 x c.1))

-- each element stands so to those behind it
abbrev Rises : {X : Type 0} → (X → X → Type 0) → List X → Type 0
Rises {X} R [] = Unit {0}
Rises {X} R (x ∷ xs) = ((y : X) → Among y xs → R x y) × Rises R xs

rises : {X : Type 0} (R : X → X → Type 0) (xs : List X) → AllPairs R xs → Rises R xs
rises R [] all = tt
rises R (x ∷ xs) all = (
  (λ y m. let c = contained xs y m in let low = c.1 in subst (R x) c.2 (all 0 (suc c.0) y (omega arith) (omega (arith, low)))),
  rises R xs (λ i j d low high. all (suc i) (suc j) d (omega (arith, low)) (omega (arith, high))),
)

-- a sum has each of its terms
has_term : {X : Type 0} (f : X → ℕ) (xs : List X) (x : X) → Among x xs → f x ≤ sum_by f xs
has_term f [] x m = absurd m
has_term f (y ∷ xs) x (inl e) = (let sum = sum_by-cons f y xs in let is = ap f e in omega (arith, sum, is))
has_term f (y ∷ xs) x (inr m) = (let sum = sum_by-cons f y xs in let more = has_term f xs x m in omega (arith, sum, more))

-- 1 for what passes
abbrev one_if : Bool → ℕ
one_if true = 1
one_if false = 0

-- where a sum counts what passes, something passes
some_term : {X : Type 0} (q : X → Bool) (xs : List X) → 1 ≤ sum_by (λ x. one_if (q x)) xs → (x : X) × Among x xs × (q x ≡ true)
some_term q [] h = absurd (omega (arith, h))
some_term q (y ∷ xs) h = elim (cases_Bool (q y)) [
  | inl k ↦ (y, inl refl, k)
  | inr k ↦ (let sum = sum_by-cons (λ x. one_if (q x)) y xs in let none = ap one_if k in let r = some_term q xs (omega (arith, h, sum, none)) in (r.0, inr r.1, r.2))
]

module _ {X : Type 0} (cmp : X → X → Ordering) (total : IsTotalOrder cmp) where
  -- each number has the same sum over both
  abbrev SameSums : List X → List X → Type 0
  SameSums xs ys = (f : X → ℕ) → sum_by f xs ≡ sum_by f ys

  -- the second isn't before the first
  abbrev Upwards : X → X → Type 0
  Upwards x y = is_lt (cmp y x) ≡ false

  upwards : (xs : List X) → IsSorted cmp xs → Rises Upwards xs
  upwards xs sorted = rises Upwards xs
      (λ i j d low high. sorted_far (λ x y. is_lt (cmp x y)) (ranks_by total (λ x. x)) xs sorted i j d (omega (arith, low)) high)

  tied : (x y : X) → is_lt (cmp x y) ≡ false → is_lt (cmp y x) ≡ false → cmp x y ≡ Equal
  tied x y h k = by (cmp x y) (cmp y x) (total.antisymm y x) h k
    where
      by : (o p : Ordering) → p ≡ ordering_reverse o → is_lt o ≡ false → is_lt p ≡ false → o ≡ Equal
      by Less p e h k = cc
      by Equal p e h k = refl
      by Greater p e h k = (let less : is_lt Less ≡ false = subst (λ o. is_lt o ≡ false) e k in cc)

  -- an element that both lists have, where the order tells their elements apart
  had : (xs ys : List X) → SameSums xs ys → ((x y : X) → Among x xs → Among y ys → cmp x y ≡ Equal → x ≡ y) → (x : X) → Among x xs → Among x ys
  had xs ys same apart x m =
      let q : X → Bool = λ y. is_eq (cmp x y) in
      let itself = ap (λ o. one_if (is_eq o)) (tied_itself total x) in
      let mine = has_term (λ y. one_if (q y)) xs x m in
      let is = same (λ y. one_if (q y)) in
      let (y, there, equal) = some_term q ys (omega (arith, itself, mine, is)) in
      subst (λ z. Among z ys) (sym (apart x y m there ((Equal-is (cmp x y)).0 equal))) there

  -- the same elements, as often
  one_order : (xs ys : List X) → Rises Upwards xs → Rises Upwards ys → SameSums xs ys
      → ((x y : X) → Among x xs → Among y ys → cmp x y ≡ Equal → x ≡ y) → xs ≡ ys
  one_order [] [] r s same apart = refl
  one_order [] (y ∷ ys) r s same apart = (let sum = sum_by-cons (λ z. 1) y ys in let is = same (λ z. 1) in absurd (omega (arith, sum, is)))
  one_order (x ∷ xs) [] r s same apart = (let sum = sum_by-cons (λ z. 1) x xs in let is = same (λ z. 1) in absurd (omega (arith, sum, is)))
  one_order (x ∷ xs) (y ∷ ys) r s same apart =
      let one = heads (had (x ∷ xs) (y ∷ ys) same apart x (inl refl))
      (had (y ∷ ys) (x ∷ xs) (λ f. sym (same f)) (λ a b m n e. sym (apart b a n m (tied_back total a b e))) y (inl refl)) in
      let later = one_order xs ys r.1 s.1
      (λ f. let whole = same f in let mine = sum_by-cons f x xs in let theirs = sum_by-cons f y ys in let first = ap f one in omega (arith, whole, mine, theirs, first))
      (λ a b m n e. apart a b (inr m) (inr n) e) in
      λ i. one i ∷ later i
    where
      heads : (y ≡ x) ⊎ Among x ys → (x ≡ y) ⊎ Among y xs → x ≡ y
      heads (inl e) h = sym e
      heads (inr m) (inl e) = e
      heads (inr m) (inr n) = apart x y (inl refl) (inl refl) (tied x y (s.0 x m) (r.0 y n))

  -- what is listed of the same elements in order
  pub one_sorted : (xs ys first second : List X) → IsPermutation xs ys → IsPermutation xs first → IsPermutation ys second
      → IsSorted cmp first → IsSorted cmp second → ((x y : X) → Among x first → Among y second → cmp x y ≡ Equal → x ≡ y) → first ≡ second
  one_sorted xs ys first second moved one other up rising apart = one_order first second (upwards first up) (upwards second rising)
      (λ f. sum_by-IsPermutation f xs first one ∙ sym (sum_by-IsPermutation f xs ys moved) ∙ sym (sum_by-IsPermutation f ys second other)) apart
