-- Places for notes.
use Rattle.std.specs.Prelude.{◌<◌, length}
use Rattle.std.specs.Vec.{vec_capacity}
use Rattle.witness_core.specs.declared.witness_link.notes.Notes.{Notes}

-- one note more of each kind takes no memory
abbrev pub HasPlace : Notes → Type 0
HasPlace notes = (length notes.refused.items < vec_capacity notes.refused) × (length notes.seen.items < vec_capacity notes.seen)
