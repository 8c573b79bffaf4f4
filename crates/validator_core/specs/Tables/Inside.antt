-- What the fields of the tables stand for.
use Rattle.std.specs.Prelude.{◌≡◌, ℕ, List, [], ◌∷◌, length}
use Rattle.event_body.specs.declared.event_body.event.Event.{Event}
use Rattle.journal.specs.declared.journal.body.Body.{Body}
use Rattle.validator_core.specs.declared.tables.tables.Tables.TheInside.{Inside}
use Rattle.validator_core.specs.Tables.View.{View, body_of}

-- the bodies with their events
unfoldable pub paired : List (List ℕ) → List Event → List Body
paired [] events = []
paired (bytes ∷ bodies) [] = []
paired (bytes ∷ bodies) (e ∷ events) = body_of bytes e ∷ paired bodies events

abbrev pub held_in : Inside → List Body
held_in t = paired t.journal.bodies t.events.items

abbrev pub view_of : Inside → View
view_of t = record {
  held = held_in t;
  entries = t.journal.entries;
  log = t.log;
  claims = t.claims;
  released = t.released;
}

-- each body has its event
abbrev pub are_paired : Inside → Type 0
are_paired t = length t.journal.bodies ≡ length t.events.items
