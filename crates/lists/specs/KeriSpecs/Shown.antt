-- What an object of the outside shows: bytes, or other things in their order, and nothing where it doesn't show them.
use Rattle.std.specs.Prelude.{◌≡◌, ℕ, ◌≤◌, List, [], ◌++◌, length, take}
use Rattle.std.specs.Option.{option_map}
use Rattle.std.specs.declared.option.Option.{Option}
use Rattle.std.specs.declared.option.Option.TheVariants.{None, Some}
use Rattle.std.specs.declared.result.Result.{Result}
use Rattle.std.specs.declared.result.Result.TheVariants.{Ok, Err}

-- bytes that are shown, with others before them
abbrev pub before : List ℕ → Option (List ℕ) → Option (List ℕ)
before bytes shown = option_map (λ left. bytes ++ left) shown

-- what is shown, with more behind it
abbrev pub after : {A : Type 0} → Option (List A) → List A → Option (List A)
after shown more = option_map (λ front. front ++ more) shown

-- nothing is left, where that is shown
abbrev pub IsAtEnd : Option (List ℕ) → Type 0
IsAtEnd None = Unit {0}
IsAtEnd (Some left) = left ≡ []

-- nothing came yet, where that is shown
abbrev pub HasNone : {A : Type 0} → Option (List A) → Type 0
HasNone None = Unit {0}
HasNone (Some all) = all ≡ []

-- A read took the n bytes that it gave, and gave none only at the end. One that failed took none.
abbrev pub Reads : {E : Type 0} → Option (List ℕ) → Option (List ℕ) → Result ℕ E → List ℕ → Type 0
Reads old new (Ok n) buf = (n ≤ length buf) × (old ≡ before (take n buf) new) × (n ≡ 0 → IsAtEnd new)
Reads old new (Err e) buf = new ≡ old

-- A call added these. One that failed added a front of them.
abbrev pub Puts : {A T E : Type 0} → Option (List A) → Option (List A) → Result T E → List A → Type 0
Puts old new (Ok _) more = new ≡ after old more
Puts old new (Err e) more = (n : ℕ) × (new ≡ after old (take n more))
