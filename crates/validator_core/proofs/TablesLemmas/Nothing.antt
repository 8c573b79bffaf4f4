-- Tables of nothing.
use Rattle.std.proofs.Common.{◌≡◌, ℕ, false, List, [], length, refl}
use Rattle.validator_core.specs.Tables.AcceptedLog.Values.{Log, nothing as no_events}
use Rattle.claim_table.specs.ClaimTable.Table.{Table, nothing as no_claims}
use Rattle.event_body.specs.declared.event_body.event.Event.{Event}
use Rattle.escrow.specs.Escrow.Escrow.{Escrow, held as held_by}
use Rattle.journal.specs.declared.journal.entry.Entry.{Entry}
use Rattle.std.specs.Prelude.{None}
use Rattle.validator_core.specs.declared.tables.name.Name.{Name}
use Rattle.validator_core.specs.declared.tables.name.SealKey.{SealKey}
use Rattle.validator_core.specs.declared.tables.name.ClaimKey.{ClaimKey}
use Rattle.validator_core.specs.Tables.Hints.{AreHinted, IsPending}
use Rattle.validator_core.specs.Tables.Inside.{paired}
use Rattle.validator_core.specs.Tables.View.{View, nothing}
use Rattle.validator_core.proofs.TablesLemmas.Hints.{hinted_nothing}
use Rattle.validator_core.proofs.TablesLemmas.Rows.{not_some}

module _ (bodies : List (List ℕ)) (events : List Event) (entries : List Entry) (log : Log) (no_bodies : bodies ≡ []) (no_entries : entries ≡ []) (none : events ≡ []) (no_log : log ≡ no_events) where
  pub hinted_start : (claims : Table) → claims ≡ no_claims → (w : Escrow) (names told places : Name → List ℕ) (came : ClaimKey → List ℕ) (seals : SealKey → List ℕ) → ((n : ℕ) → held_by n w ≡ None)
      → (length bodies ≡ length events) × IsPending claims × AreHinted (paired bodies events) entries log.numbers 0 w names told places came seals false
  unfolding paired
  hinted_start claims no_rows w names told places came seals empty = rw (no_bodies, no_entries, none, no_log, no_rows) (refl, λ s is. absurd (not_some s is), hinted_nothing w names told places came seals empty)

  pub view_start : (claims : Table) → claims ≡ no_claims → let start : View = record { held = paired bodies events; entries = entries; log = log; claims = claims; released = 0 } in start ≡ nothing
  unfolding paired
  view_start claims no_rows = rw (no_bodies, no_entries, no_log, no_rows) refl
