-- A search for the element of a number among those that pass a test.
use Rattle.std.proofs.Common.{◌≡◌, ℕ, ◌+◌, ◌<◌, Bool, true, false, List, ◌∷◌, refl, length, drop, slice_index_or}
use Rattle.std.specs.Prelude.{filter}
use Rattle.std.proofs.lemmas.List.{drop_more}

module _ {X : Type 0} (p : X → Bool) (xs : List X) (n : ℕ) (d : X) (within : n < length xs) where
  -- one that fails is passed over
  pub passed : p (slice_index_or xs n d) ≡ false → filter p (drop n xs) ≡ filter p (drop (n + 1) xs)
  passed h = let e = drop_more xs n d within in rw (e, h) refl

  -- one that passes is the first
  pub met : p (slice_index_or xs n d) ≡ true → filter p (drop n xs) ≡ slice_index_or xs n d ∷ filter p (drop (n + 1) xs)
  met h = let e = drop_more xs n d within in rw (e, h) refl
