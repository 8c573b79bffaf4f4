-- What a door shows of links: the bytes of each that is left, where a door shows them.
use Rattle.std.specs.Prelude.{◌≡◌, ℕ, List, [], ◌∷◌, ◌++◌, map}
use Rattle.std.specs.Option.{option_map}
use Rattle.std.specs.declared.option.Option.{Option}
use Rattle.std.specs.declared.option.Option.TheVariants.{None, Some}
use Rattle.std.specs.declared.result.Result.{Result}
use Rattle.std.specs.declared.result.Result.TheVariants.{Ok, Err}
use Rattle.keri_outside.specs.declared.mem_door.MemDoor.{MemDoor}

-- no link is left, where that is shown
abbrev pub NoneLeft : Option (List (List ℕ)) → Type 0
NoneLeft None = Unit {0}
NoneLeft (Some left) = left ≡ []

-- these bytes are left of a source, where the door showed them
abbrev pub HasLeft : Option (List (List ℕ)) → Option (List ℕ) → List ℕ → Type 0
HasLeft None left bytes = Unit {0}
HasLeft (Some told) left bytes = left ≡ Some bytes

-- A call took the first link that was left, and gave none only where none was. One that failed took none.
abbrev pub Comes : {C E : Type 0} → (C → Option (List ℕ)) → Option (List (List ℕ)) → Option (List (List ℕ)) → Result (Option C) E → Type 0
Comes left old new (Ok (Some caller)) = (bytes : List ℕ) × (old ≡ option_map (λ rest. bytes ∷ rest) new) × HasLeft old (left caller) bytes
Comes left old new (Ok None) = NoneLeft old × (new ≡ old)
Comes left old new (Err e) = new ≡ old

abbrev pub door_left : MemDoor → Option (List (List ℕ))
door_left door = Some (map (λ link. link.bytes) door.links.items)

abbrev pub door_faults : MemDoor → ℕ
door_faults door = door.faults

-- the calls of these numbers fail
abbrev pub door_failing : MemDoor → List ℕ
door_failing door = door.failing
