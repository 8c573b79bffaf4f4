-- The calls of a file, as the system has them, where they are shown.
use Rattle.std.specs.Prelude.{◌≡◌, ℕ, ◌+◌, List, [], ◌∷◌, length, take, Result}
use Rattle.std.specs.List.{concat}
use Rattle.std.specs.declared.option.Option.{Option}
use Rattle.std.specs.declared.result.Result.TheVariants.{Ok, Err}
use Rattle.lists.specs.KeriSpecs.Shown.{after}
use Rattle.disk_file.specs.declared.file_call.FileCall.{FileCall}

-- A call came about, and is the last one; these are what it is by its answer. One that failed left none.
abbrev pub Does : {T E : Type 0} → Option (List FileCall) → Option (List FileCall) → Result T E → (T → FileCall) → Type 0
Does old new (Ok answer) call = new ≡ after old (call answer ∷ [])
Does old new (Err e) call = new ≡ old

-- calls for these pieces, one behind the other from a place on
abbrev pub calls_from : (ℕ → List ℕ → FileCall) → ℕ → List (List ℕ) → List FileCall
calls_from call place [] = []
calls_from call place (piece ∷ pieces) = call place piece ∷ calls_from call (place + length piece) pieces

-- these bytes went from a place on, each of them at its own, in pieces that no other call stands between
pub record Passes (call : ℕ → List ℕ → FileCall) (place : ℕ) (bytes : List ℕ) (old new : Option (List FileCall)) : Type 0 where
  pub pieces : List (List ℕ)
  pub whole : concat pieces ≡ bytes
  pub calls : new ≡ after old (calls_from call place pieces)

-- All of these bytes did where a call succeeded, and where it failed a front of them.
abbrev pub PassesAll : {E : Type 0} → (ℕ → List ℕ → FileCall) → ℕ → List ℕ → Option (List FileCall) → Option (List FileCall) → Result (Unit {0}) E → Type 0
PassesAll call place bytes old new (Ok _) = Passes call place bytes old new
PassesAll call place bytes old new (Err e) = (n : ℕ) × Passes call place (take n bytes) old new
