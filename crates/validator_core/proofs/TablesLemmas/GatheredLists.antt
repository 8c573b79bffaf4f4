-- The lists that rows give, one after the other: by their numbers, where each row that gives something is among these.
use Rattle.std.proofs.Common.{◌≡◌, ℕ, Bool, true, false, List, [], ◌∷◌, ◌++◌, refl, sym, ◌∙◌, ap, inl, inr, Option, Some, None}
use Rattle.std.specs.Prelude.{Contains, filter, filter_map, flat_map, slice_get}
use Rattle.std.specs.List.{cons_option}
use Rattle.std.specs.List.Sorted.{IsStrictlyIncreasing}
use Rattle.std.specs.Option.{option_map_or}
use Rattle.std.proofs.lemmas.Bool.{cases_Bool}
use Rattle.escrow.specs.EventIndex.Rows.{HasRows, is_row}
use Rattle.escrow.proofs.EventIndexLemmas.Rows.{filter_map-numbers}

-- what is there gives all, where nothing gives nothing
pub flat_map-filter_map : {X Y Z : Type 0} (g : Option Y → List Z) (h : X → Option Y) (xs : List X) → g None ≡ [] → flat_map (λ x. g (h x)) xs ≡ flat_map (λ y. g (Some y)) (filter_map h xs)
flat_map-filter_map g h [] none = refl
flat_map-filter_map {Y = Y} g h (x ∷ xs) none = ap (λ zs. g (h x) ++ zs) (flat_map-filter_map g h xs none) ∙ first (h x) (filter_map h xs)
  where
    first : (o : Option Y) (ys : List Y) → g o ++ flat_map (λ y. g (Some y)) ys ≡ flat_map (λ y. g (Some y)) (cons_option o ys)
    first None ys = ap (λ zs. zs ++ flat_map (λ y. g (Some y)) ys) none
    first (Some y) ys = refl

-- what passes a test gives all, where nothing else gives something
flat_map-filter : {X Y : Type 0} (q : X → Bool) (f : X → List Y) (xs : List X) → ((x : X) → q x ≡ false → f x ≡ []) → flat_map f (filter q xs) ≡ flat_map f xs
flat_map-filter q f [] none = refl
flat_map-filter q f (x ∷ xs) none = elim (cases_Bool (q x)) [
  | inl k ↦ rw k (ap (λ ys. f x ++ ys) (flat_map-filter q f xs none))
  | inr k ↦ (let nothing = none x k in rw (k, nothing) (flat_map-filter q f xs none))
]

abbrev is_some_list : {X : Type 0} → List X → Bool
is_some_list [] = false
is_some_list (x ∷ xs) = true

no_list : {X : Type 0} (xs : List X) → is_some_list xs ≡ false → xs ≡ []
no_list [] e = refl
no_list (x ∷ xs) e = cc

module _ {X Y : Type 0} (g : Option X → List Y) (none : g None ≡ []) (rows : List X) (numbers : List ℕ) (rising : IsStrictlyIncreasing numbers)
    (all : (n : ℕ) (x : X) → slice_get rows n ≡ Some x → (g (Some x) ≡ [] → ⊥) → Contains numbers n) where
  abbrev gives : X → Bool
  gives x = is_some_list (g (Some x))

  has : HasRows gives rows numbers
  has = record { rising = rising; each = λ n x at t. all n x at (λ e. let no = ap is_some_list e in cc) }

  others : (n : ℕ) → is_row gives rows n ≡ false → g (slice_get rows n) ≡ []
  others n = other (slice_get rows n)
    where
      other : (o : Option X) → option_map_or gives o false ≡ false → g o ≡ []
      other None e = none
      other (Some x) e = no_list (g (Some x)) e

  -- GATHERED
  pub flat_map-numbers : flat_map (λ n. g (slice_get rows n)) numbers ≡ flat_map (λ x. g (Some x)) rows
  flat_map-numbers =
      sym (flat_map-filter (is_row gives rows) (λ n. g (slice_get rows n)) numbers others)
      ∙ flat_map-filter_map g (slice_get rows) (filter (is_row gives rows) numbers) none
      ∙ ap (flat_map (λ x. g (Some x))) (filter_map-numbers gives rows numbers has)
      ∙ flat_map-filter gives (λ x. g (Some x)) rows (λ x e. no_list (g (Some x)) e)
