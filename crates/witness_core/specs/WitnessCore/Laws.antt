-- Laws of when an event was accepted.
use Rattle.std.specs.Prelude.{◌≡◌, true, List, [], ◌∷◌, ◌++◌}
use Rattle.journal_views.specs.EventPayload.Kept.{state_under}
use Rattle.journal.specs.declared.journal.body.Body.{Body}
use Rattle.journal.specs.declared.journal.mode.Mode.{Mode}
use Rattle.journal.specs.Journal.Accepted.{accepted}
use Rattle.journal.specs.Journal.History.{Told}
use Rattle.journal.specs.Journal.Readiness.{signed}
use Rattle.witness_core.specs.WitnessStore.Payloads.{IsAcceptedAt}

-- What an entry makes accepted comes behind what was; each of it was accepted by that entry, and is signed by what was told then,
-- under the state just before it in the log.
abbrev pub EntryLaw : Type 0
EntryLaw = (mode : Mode) (base : List Body) (told : List Told) (t : Told)
    → (more : List Body) × (accepted mode base (told ++ t ∷ []) ≡ accepted mode base told ++ more)
    × ((front later : List Body) (b : Body) → more ≡ front ++ b ∷ later → IsAcceptedAt mode base (told ++ t ∷ []) b (told ++ t ∷ [])
    × (signed (told ++ t ∷ []) (state_under (accepted mode base (told ++ t ∷ [])) b) b ≡ true))

-- when an event was accepted stays the same when more is told
abbrev pub StaysLaw : Type 0
StaysLaw = (mode : Mode) (base : List Body) (told more : List Told) (b : Body) (moment : List Told)
    → IsAcceptedAt mode base told b moment → IsAcceptedAt mode base (told ++ more) b moment
