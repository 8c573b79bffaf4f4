-- Lists that are made element by element.
use Rattle.std.proofs.Common.{◌≡◌, ℕ, zero, suc, ◌<◌, List, [], ◌∷◌, ◌++◌, length, map, take, get_or, Option, Some, None, refl, ◌∙◌, ap, arith}
use Rattle.std.specs.Prelude.{filter_map, flat_map, option_to_list}
use Rattle.std.proofs.lemmas.List.{map-append}

-- what is made of each element that is found
module _ {E T X : Type 0} (w : E → Option T) (g : T → List X) (h : Option T → List X) (none : h None ≡ []) (some : (t : T) → h (Some t) ≡ g t) where
  pub flat_found : (es : List E) → flat_map (λ e. h (w e)) es ≡ flat_map g (filter_map w es)
  flat_found [] = refl
  flat_found (e ∷ es) = step (w e) refl (flat_found es)
    where
      step : (o : Option T) → w e ≡ o → flat_map (λ e. h (w e)) es ≡ flat_map g (filter_map w es)
          → flat_map (λ e. h (w e)) (e ∷ es) ≡ flat_map g (filter_map w (e ∷ es))
      step None k ih = rw (k, none) ih
      step (Some t) k ih = rw (k, some t, ih) refl

module _ {T X Y : Type 0} (f : X → Y) (g : T → List X) where
  pub map_flat : (ts : List T) → map f (flat_map g ts) ≡ flat_map (λ t. map f (g t)) ts
  map_flat [] = refl
  map_flat (t ∷ ts) = map-append f (g t) (flat_map g ts) ∙ ap (λ ys. map f (g t) ++ ys) (map_flat ts)

-- one more element
module _ {X Y : Type 0} (f : X → Option Y) where
  pub filter_map_push : (xs : List X) (x : X) → filter_map f (xs ++ x ∷ []) ≡ filter_map f xs ++ option_to_list (f x)
  filter_map_push [] x = step (f x) refl
    where
      step : (o : Option Y) → f x ≡ o → filter_map f (x ∷ []) ≡ option_to_list (f x)
      step None k = rw k refl
      step (Some y) k = rw k refl
  filter_map_push (z ∷ xs) x = step (f z) refl (filter_map_push xs x)
    where
      step : (o : Option Y) → f z ≡ o → filter_map f (xs ++ x ∷ []) ≡ filter_map f xs ++ option_to_list (f x)
          → filter_map f (z ∷ (xs ++ x ∷ [])) ≡ filter_map f (z ∷ xs) ++ option_to_list (f x)
      step None k ih = rw k ih
      step (Some y) k ih = rw k (ap (λ ys. y ∷ ys) ih)

  -- what comes of an element behind what comes of those before it
  pub filter_map_parts : (xs : List X) (i : ℕ) (d : X) (y : Y) → i < length xs → f (get_or xs i d) ≡ Some y
      → (later : List Y) × (filter_map f xs ≡ filter_map f (take i xs) ++ y ∷ later)
  filter_map_parts [] i d y low at = absurd (omega (arith, low))
  filter_map_parts (z ∷ xs) zero d y low at = (filter_map f xs, rw at refl)
  filter_map_parts (z ∷ xs) (suc i) d y low at =
      let rest = filter_map_parts xs i d y (let l = low in omega (arith, l)) at in
      (rest.0, step (f z) refl rest.0 rest.1)
    where
      step : (o : Option Y) → f z ≡ o → (later : List Y) → filter_map f xs ≡ filter_map f (take i xs) ++ y ∷ later
          → filter_map f (z ∷ xs) ≡ filter_map f (z ∷ take i xs) ++ y ∷ later
      step None k later ih = rw k ih
      step (Some w) k later ih = rw k (ap (λ ys. w ∷ ys) ih)
