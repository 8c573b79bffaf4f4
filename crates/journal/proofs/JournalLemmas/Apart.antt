-- Elements at their first coming, of lists that have nothing in common.
use Rattle.std.proofs.Common.{◌≡◌, Bool, true, not, List, [], ◌∷◌, ◌++◌, refl, ◌∙◌, ap}
use Rattle.std.specs.Prelude.{filter, flat_map, All}
use Rattle.std.specs.List.{list_all}
use Rattle.std.proofs.lemmas.List.Elements.{filter-append, All-head, All-tail}
use Rattle.std.proofs.lemmas.Bool.{and_parts}
use Rattle.key_state.specs.Same.{distinct}
use Rattle.journal.proofs.JournalLemmas.Keeping.{list_all-distinct}

-- a test that all pass leaves the list as it is
pub filter-all : {X : Type 0} (q : X → Bool) (xs : List X) → list_all q xs ≡ true → filter q xs ≡ xs
filter-all q [] h = refl
filter-all q (x ∷ xs) h = let parts = and_parts (q x) (list_all q xs) h in let here = parts.0 in rw here (ap (λ ys. x ∷ ys) (filter-all q xs parts.1))

-- a test of the elements of several lists is one of each list
pub filter-flat_map : {X B : Type 0} (q : X → Bool) (f : B → List X) (bs : List B) → filter q (flat_map f bs) ≡ flat_map (λ b. filter q (f b)) bs
filter-flat_map q f [] = refl
filter-flat_map q f (b ∷ bs) = filter-append q (f b) (flat_map f bs) ∙ ap (λ ys. filter q (f b) ++ ys) (filter-flat_map q f bs)

-- what is equal for each element makes one list
pub flat_map-All : {X B : Type 0} (f g : X → List B) (xs : List X) → All (λ x. f x ≡ g x) xs → flat_map f xs ≡ flat_map g xs
flat_map-All f g [] h = refl
flat_map-All f g (x ∷ xs) h =
    let here = All-head (λ y. f y ≡ g y) x xs h in
    let behind = flat_map-All f g xs (All-tail (λ y. f y ≡ g y) x xs h) in
    λ i. here i ++ behind i

module _ {X : Type 0} (same : X → X → Bool) where
  -- no element of the one is the same as one of the other
  abbrev pub Apart : List X → List X → Type 0
  Apart xs ys = list_all (λ x. list_all (λ y. not (same x y)) ys) xs ≡ true

  pub distinct-apart : (xs ys : List X) → Apart xs ys → distinct same (xs ++ ys) ≡ distinct same xs ++ distinct same ys
  unfolding distinct
  distinct-apart [] ys h = refl
  distinct-apart (x ∷ xs) ys h =
      let parts = and_parts (list_all (λ y. not (same x y)) ys) (list_all (λ z. list_all (λ y. not (same z y)) ys) xs) h in
      let others = filter-all (λ y. not (same x y)) (distinct same ys) (list_all-distinct same (λ y. not (same x y)) ys parts.0) in
      ap (λ zs. x ∷ filter (λ y. not (same x y)) zs) (distinct-apart xs ys parts.1)
      ∙ ap (λ zs. x ∷ zs) (filter-append (λ y. not (same x y)) (distinct same xs) (distinct same ys) ∙ ap (λ zs. filter (λ y. not (same x y)) (distinct same xs) ++ zs) others)

  module _ {B : Type 0} (f : B → List X) where
    -- each list is apart from all behind it
    abbrev pub AllApart : List B → Type 0
    AllApart [] = Unit {0}
    AllApart (b ∷ bs) = Apart (f b) (flat_map f bs) × AllApart bs

    pub distinct-flat_map : (bs : List B) → AllApart bs → distinct same (flat_map f bs) ≡ flat_map (λ b. distinct same (f b)) bs
    unfolding distinct
    distinct-flat_map [] h = refl
    distinct-flat_map (b ∷ bs) h = distinct-apart (f b) (flat_map f bs) h.0 ∙ ap (λ ys. distinct same (f b) ++ ys) (distinct-flat_map bs h.1)
