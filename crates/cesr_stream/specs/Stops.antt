-- What it says of a part that the code stops at it.
use Rattle.std.specs.Prelude.{◌≡◌, ℕ, ◌+◌, ◌≤◌, List, length}
use Rattle.cesr_stream.specs.declared.stop.Stop.{Stop}
use Rattle.cesr_stream.specs.declared.stop.Stop.TheVariants.{Refused, Unfinished, OutOfMemory}
use Rattle.cesr_stream.specs.Parts.{Part, refused, unfinished}

-- how far into a part a fault is
abbrev pub extent : Stop → ℕ
extent (Refused place reason) = place
extent Unfinished = 0
extent OutOfMemory = 0

-- a part that stands so many bytes further behind
abbrev pub further : ℕ → Stop → Stop
further n (Refused place reason) = Refused (n + place) reason
further n Unfinished = Unfinished
further n OutOfMemory = OutOfMemory

-- the part of these bytes is refused at a place within them, or it isn't whole yet
abbrev pub Stops : List ℕ → Part → Stop → Type 0
Stops bytes part (Refused place reason) = (part ≡ refused place reason) × (place ≤ length bytes)
Stops bytes part Unfinished = part ≡ unfinished
Stops bytes part OutOfMemory = ⊥

-- the same, or there was no memory
abbrev pub Halts : List ℕ → Part → Stop → Type 0
Halts bytes part (Refused place reason) = (part ≡ refused place reason) × (place ≤ length bytes)
Halts bytes part Unfinished = part ≡ unfinished
Halts bytes part OutOfMemory = Unit {0}
