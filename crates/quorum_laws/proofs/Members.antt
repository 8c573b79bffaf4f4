-- Members of lists.
use Rattle.std.proofs.Common.{◌≡◌, ℕ, zero, suc, ◌<◌, Bool, true, List, [], ◌∷◌, ◌++◌, length, get_or, Some, Contains, refl, sym, ◌∙◌, ap, arith, inl, inr}
use Rattle.std.specs.Prelude.{find, slice_get}
use Rattle.std.specs.List.{list_any, position_or_len}
use Rattle.std.proofs.lemmas.Bool.{cases_Bool}
use Rattle.std.proofs.lemmas.List.Folds.{find_at, list_any_at}
use Rattle.std.proofs.lemmas.Option.{get_or_from_slice_get, slice_get_within}
use Rattle.journal.proofs.JournalLemmas.Places.{found_at}

-- what stands at a place is a member
contains_at : {X : Type 0} (xs : List X) (n : ℕ) (x : X) → slice_get xs n ≡ Some x → Contains xs x
contains_at xs n x at = (n, slice_get_within xs n x at, get_or_from_slice_get xs n x x at)

-- what is found is a member
pub find_contains : {X : Type 0} (p : X → Bool) (xs : List X) (x : X) → find p xs ≡ Some x → Contains xs x
find_contains p xs x e = contains_at xs (position_or_len p xs) x (sym (find_at p xs) ∙ e)

-- where one passes, something is found
pub find_some : {X : Type 0} (p : X → Bool) (xs : List X) → list_any p xs ≡ true → (x : X) × (find p xs ≡ Some x)
find_some p [] h = cc
find_some p (y ∷ xs) h = elim (cases_Bool (p y)) [
  | inl k ↦ (y, rw k refl)
  | inr k ↦ (let rest = find_some p xs (rw k at h) in (rest.0, rw k rest.1))
]

-- where one passes, some member does
pub any_member : {X : Type 0} (p : X → Bool) (xs : List X) → list_any p xs ≡ true → (x : X) × Contains xs x × (p x ≡ true)
any_member p xs h = let f = found_at p xs h in (f.1, contains_at xs f.0 f.1 f.2, f.3)

-- where a member passes, one passes
pub member_any : {X : Type 0} (p : X → Bool) (xs : List X) (x : X) → Contains xs x → p x ≡ true → list_any p xs ≡ true
member_any p xs x c h = list_any_at p xs c.0 x c.1 (rw c.2 h)

-- a member parts a list
pub parts_at : {X : Type 0} (xs : List X) (x : X) → Contains xs x → (front later : List X) × (xs ≡ front ++ x ∷ later)
parts_at {X = X} xs x c = at xs c.0 c.1 c.2
  where
    at : (ys : List X) (k : ℕ) → k < length ys → get_or ys k x ≡ x → (front later : List X) × (ys ≡ front ++ x ∷ later)
    at [] k h e = absurd (omega arith)
    at (y ∷ ys) zero h e = ([], ys, ap (λ z. z ∷ ys) e)
    at (y ∷ ys) (suc k) h e = let (front, later, parted) = at ys k (omega arith) e in (y ∷ front, later, ap (λ zs. y ∷ zs) parted)
