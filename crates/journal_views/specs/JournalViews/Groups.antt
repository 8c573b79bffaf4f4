-- Elements in order, cut into groups of one place.
use Rattle.std.specs.Prelude.{Bool, false, List, [], ◌∷◌, ◌++◌, length, nat_le, if◌then◌else◌}
use Rattle.std.specs.declared.cmp.Ordering.{Ordering}
use Rattle.std.specs.Ordering.{is_ne}

-- the element is at another place than the first of a group
abbrev pub is_apart : {X : Type 0} → (X → X → Ordering) → List X → X → Bool
is_apart place [] x = false
is_apart place (y ∷ group) x = is_ne (place y x)

-- a group of two or more is a set
abbrev pub as_set : {X : Type 0} → List X → List (List X)
as_set group = if nat_le 2 (length group) then group ∷ [] else []

-- the sets of an open group and what follows it
unfoldable pub cut : {X : Type 0} → (X → X → Ordering) → List X → List X → List (List X)
cut place group [] = as_set group
cut place group (x ∷ xs) = if is_apart place group x then as_set group ++ cut place (x ∷ []) xs else cut place (group ++ x ∷ []) xs
