use Rattle.std.proofs.Common.{◌≡◌, take}
use Rattle.std.specs.Option.{option_copied}
use Rattle.std.specs.Prelude.{Some, flat_map, slice_get}
use Rattle.event_body.specs.declared.event_body.event.Event.{Event}
use Rattle.validator_core.specs.Tables.EntryClaims.{came_to}
use Rattle.validator_core.specs.Tables.RaisedRows.{RaisesRows}
use Rattle.validator_core.proofs.tables.entry_claims.raise_entries.Given as goal

abbrev pub invariant-loop-entry : goal.invariant-loop-entry
invariant-loop-entry l = (e : Event) → slice_get l.events l.number ≡ Some e
    → RaisesRows l.number (option_copied l.state) e (flat_map (λ i. came_to l.events l.number (slice_get l.entries i)) (take l.entry-index l.numbers)) l.initial.claims l.claims
