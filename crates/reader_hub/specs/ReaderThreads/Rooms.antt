-- Room that is reserved.
use Rattle.std.specs.Prelude.{◌≡◌, ℕ, ◌≤◌, [], Vec, vec_capacity}

-- there is nothing in it, and room for so many
abbrev pub IsFree : {X Z : Type 0} → ℕ → Vec X Z → Type 0
IsFree count vec = (vec.items ≡ []) × (count ≤ vec_capacity vec)
