-- What a command reads.
use Rattle.std.specs.Prelude.{◌<◌, ◌≤◌, ◌||◌, ℕ, List, Bool, codes, if◌then◌else◌, is_some, option_and_then, option_map}
use Rattle.std.specs.declared.option.Option.{Option}
use Rattle.std.specs.declared.option.Option.TheVariants.{None}
use Rattle.clap.specs.Words.{Row, first_of}
use Rattle.command_words.specs.Numbers.{number_set}
use Rattle.command_words.specs.declared.inputs.Inputs.{Inputs as InputWords}
use Rattle.command_words.specs.declared.inputs.Inputs.TheVariants.{Links, Named}

-- what is read: what is named, or links that come at an address, so many at most
pub data Inputs (N : Type 0) : Type 0 where
  named : N → Inputs N
  links : List ℕ → ℕ → Inputs N

-- what is read, by the bytes of its words
abbrev pub inputs_by : {X Y : Type 0} → (X → Y) → InputWords X → Inputs Y
inputs_by bytes (Named names) = named (bytes names)
inputs_by bytes (Links it) = links it.address.now it.count

-- so many: one at least, and 64 at most
abbrev pub AreFew : ℕ → Type 0
AreFew n = (0 < n) × (n ≤ 64)

-- what is sure of what is read: links are few, and this of what is named
abbrev pub AreInForm : {X : Type 0} → (X → Type 0) → InputWords X → Type 0
AreInForm IsInForm (Named names) = IsInForm names
AreInForm IsInForm (Links it) = AreFew it.count

-- whether an option of links is there
abbrev pub has_links : List Row → Bool
has_links rows = is_some (first_of (codes "listen") rows) || is_some (first_of (codes "links") rows)

-- the address and the number of links, where both options are there
abbrev pub links_set : List Row → Option (List ℕ × ℕ)
links_set rows =
    option_and_then (λ address. option_map (λ count. (address, count)) (number_set (codes "links") 1 64 rows))
    (first_of (codes "listen") rows)

-- the same, where nothing is named besides
abbrev pub links_alone : Bool → List Row → Option (List ℕ × ℕ)
links_alone is_named rows = if is_named then None else links_set rows

-- what is read: links where an option of theirs is there, and nothing is named then, and else what is named, where that is in the form
abbrev pub inputs_of : {N : Type 0} → Bool → Option N → List Row → Option (Inputs N)
inputs_of is_named names rows =
    if has_links rows then option_map (λ it. links it.0 it.1) (links_alone is_named rows) else option_map named names
