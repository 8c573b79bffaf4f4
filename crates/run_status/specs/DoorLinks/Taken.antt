-- What is told of links that were taken at a door.
use Rattle.std.specs.Prelude.{◌≡◌, ℕ, ◌⊎◌, Bool, true, false, List, ◌++◌, map}
use Rattle.std.specs.declared.option.Option.{Option}
use Rattle.std.specs.declared.option.Option.TheVariants.{None, Some}
use Rattle.lists.specs.KeriSpecs.Causes.{Rose}
use Rattle.keri_outside.specs.Doors.{NoneLeft}

-- What the door told is the bytes that these links hold, in order, and behind them what it has left. It tells now if it did.
abbrev pub AreTaken : Option (List (List ℕ)) → Option (List (List ℕ)) → List (Option (List ℕ)) → Type 0
AreTaken None new held = new ≡ None
AreTaken (Some told) new held = (taken : List (List ℕ)) × (rest : List (List ℕ)) × (new ≡ Some rest) × (told ≡ taken ++ rest)
    × (held ≡ map (λ bytes. Some bytes) taken)

-- Fewer links than were wanted came only where the door failed, or had none left or doesn't tell.
abbrev pub IsEnough : ℕ → ℕ → Bool → Option (List (List ℕ)) → Type 0
IsEnough wanted count failed left = (count ≡ wanted) ⊎ (failed ≡ true) ⊎ NoneLeft left

-- a door that failed has a count that rose, and that of one that didn't stays
abbrev pub IsCaused : Bool → ℕ → ℕ → Type 0
IsCaused true before now = Rose before now
IsCaused false before now = now ≡ before
