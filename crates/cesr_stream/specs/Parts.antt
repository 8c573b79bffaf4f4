-- How the parts of a stream are judged from their front.
use Rattle.std.specs.Prelude.{ℕ, ◌+◌, ◌-◌, List, drop}
use Rattle.std.specs.declared.option.Option.{Option}
use Rattle.std.specs.declared.option.Option.TheVariants.{None, Some}
use Rattle.cesr_stream.specs.declared.bad.BadReason.{BadReason}

-- A part has so many bytes; or a rule refuses it at a place in it; or neither shows yet.
pub data Part : Type 0 where
  whole : ℕ → Part
  refused : ℕ → BadReason → Part
  unfinished : Part

-- a part that stands so many bytes further behind
abbrev pub shifted : ℕ → Part → Part
shifted n (whole m) = whole (n + m)
shifted n (refused place reason) = refused (n + place) reason
shifted n unfinished = unfinished

-- a part, and what is judged so many bytes behind it
abbrev pub followed_by : Part → (ℕ → List ℕ → Part) → List ℕ → Part
followed_by (whole n) next bytes = shifted n (next n (drop n bytes))
followed_by (refused place reason) next bytes = refused place reason
followed_by unfinished next bytes = unfinished

-- what is left of a wrap, where there is one, behind so many bytes
abbrev pub less : ℕ → Option ℕ → Option ℕ
less n None = None
less n (Some room) = Some (room - n)
