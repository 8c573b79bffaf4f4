use Rattle.std.proofs.Common.{◌≡◌, ◌<◌, ℕ}
use Rattle.std.specs.Prelude.{Contains, Some, slice_get}
use Rattle.validator_core.specs.Tables.Names.{name_of}
use Rattle.event_body.specs.declared.event_body.event.Event.{Event}
use Rattle.escrow.specs.EventIndex.Keys.{numbers_at}
use Rattle.export_core.specs.ExportCore.Came.{event_in, name_cmp}
use Rattle.export_core.proofs.export_core.came.entries_by_name.Given as goal

-- the numbers of the entries so far are there
abbrev pub invariant-loop-place : goal.invariant-loop-place
invariant-loop-place l = (i : ℕ) (e : Event) → i < l.place → event_in l.events (slice_get l.entries i) ≡ Some e
    → Contains (numbers_at name_cmp l.index (name_of e)) i
