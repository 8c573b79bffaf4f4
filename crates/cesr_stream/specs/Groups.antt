-- How many elements groups have.
use Rattle.std.specs.Prelude.{ℕ, length}
use Rattle.cesr_stream.specs.declared.group.Group.{Group}
use Rattle.cesr_stream.specs.declared.group.Group.TheVariants.{Controller, Witness, Couples, FirstSeen, Anchor}

abbrev pub elements_of : Group → ℕ
elements_of (Controller sigs) = length sigs
elements_of (Witness sigs) = length sigs
elements_of (Couples couples) = length couples
elements_of (FirstSeen seen) = length seen
elements_of (Anchor anchors) = length anchors
