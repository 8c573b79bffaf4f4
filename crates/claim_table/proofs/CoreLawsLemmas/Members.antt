-- Members of lists.
use Rattle.std.proofs.Common.{◌≡◌, Bool, true, List, [], ◌∷◌, Some, Contains, refl, sym, ◌∙◌, inl, inr}
use Rattle.std.specs.Prelude.{find}
use Rattle.std.specs.List.{list_any, position_or_len}
use Rattle.std.proofs.lemmas.Bool.{cases_Bool}
use Rattle.std.proofs.lemmas.List.Folds.{find_at, list_any_at}
use Rattle.std.proofs.lemmas.Option.{get_or_from_slice_get, slice_get_within}

-- what is found is a member
pub find_contains : {X : Type 0} (p : X → Bool) (xs : List X) (x : X) → find p xs ≡ Some x → Contains xs x
find_contains p xs x e =
    let n = position_or_len p xs in
    let at = sym (find_at p xs) ∙ e in (n, slice_get_within xs n x at, get_or_from_slice_get xs n x x at)

-- where one passes, something is found
pub find_some : {X : Type 0} (p : X → Bool) (xs : List X) → list_any p xs ≡ true → (x : X) × (find p xs ≡ Some x)
find_some p [] h = cc
find_some p (y ∷ xs) h = elim (cases_Bool (p y)) [
  | inl k ↦ (y, rw k refl)
  | inr k ↦ (let rest = find_some p xs (rw k at h) in (rest.0, rw k rest.1))
]

-- where a member passes, one passes
pub member_any : {X : Type 0} (p : X → Bool) (xs : List X) (x : X) → Contains xs x → p x ≡ true → list_any p xs ≡ true
member_any p xs x c h = list_any_at p xs c.0 x c.1 (rw c.2 h)
