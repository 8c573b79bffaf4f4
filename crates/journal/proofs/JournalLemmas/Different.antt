-- The elements at their first coming differ from each other.
use Rattle.std.proofs.Common.{◌≡◌, Bool, true, not, List, [], ◌∷◌, inl, inr}
use Rattle.std.specs.Prelude.{filter}
use Rattle.std.specs.List.{list_all}
use Rattle.std.proofs.lemmas.Bool.{cases_Bool}
use Rattle.std.proofs.lemmas.List.Elements.{filter_passes}
use Rattle.std.proofs.lemmas.List.Sums.{list_all-from_AllPass}
use Rattle.key_state.specs.Same.{distinct}
use Rattle.journal.proofs.JournalLemmas.Keeping.{list_all-filter}

-- what a test leaves passes it
pub all-filter : {X : Type 0} (q : X → Bool) (xs : List X) → list_all q (filter q xs) ≡ true
all-filter q xs = list_all-from_AllPass q (filter q xs) (filter_passes q xs)

module _ {X : Type 0} (same : X → X → Bool) where
  -- no element is the same as one behind it
  abbrev pub Differ : List X → Type 0
  Differ [] = Unit {0}
  Differ (x ∷ xs) = (list_all (λ y. not (same x y)) xs ≡ true) × Differ xs

  differ-filter : (q : X → Bool) (xs : List X) → Differ xs → Differ (filter q xs)
  differ-filter q [] d = tt
  differ-filter q (x ∷ xs) d = elim (cases_Bool (q x)) [
    | inl k ↦ rw k (list_all-filter same q (λ y. not (same x y)) xs d.0, differ-filter q xs d.1)
    | inr k ↦ rw k (differ-filter q xs d.1)
  ]

  pub differ-distinct : (xs : List X) → Differ (distinct same xs)
  unfolding distinct
  differ-distinct [] = tt
  differ-distinct (x ∷ xs) = (all-filter (λ y. not (same x y)) (distinct same xs), differ-filter (λ y. not (same x y)) (distinct same xs) (differ-distinct xs))
