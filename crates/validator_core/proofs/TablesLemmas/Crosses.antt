-- The tables may go to another thread: said a part at a time, since a `search` that goes down through all of them at once runs out
-- of steps.
use denote.Param.Send.{IsSend, sendable}
use denote.Param.SendFields.{declared_send}
use Rattle.std.proofs.Crossing as crossing
use Rattle.std.specs.contracts.alloc.Global as global
use Rattle.validator_core.proofs.tables.accepted_log.accepted_log.AcceptedLog.TheSendSync as log
use Rattle.claim_table.proofs.claim_table.claim_table.ClaimTable.TheSendSync as claims
use Rattle.escrow.proofs.event_index.index.Index.TheSendSync as index
use Rattle.journal.proofs.journal.journal.Journal.TheSendSync as journal
use Rattle.escrow.proofs.EscrowLemmas.Crosses.{waiting_send}
use Rattle.event_body.proofs.EventBodyLemmas.Crosses.{event_send}
use Rattle.event_body.specs.contracts.event_body.event.Event as event
use Rattle.validator_core.proofs.tables.claim_entries.ClaimEntries.TheSendSync as came
use Rattle.validator_core.proofs.tables.named_places.NamedPlaces.TheSendSync as places
use Rattle.validator_core.proofs.tables.name.Name.TheSendSync as name
use Rattle.validator_core.proofs.tables.name.SealKey.TheSendSync as seal_key
use Rattle.validator_core.specs.contracts.tables.name.Name as names
use Rattle.validator_core.specs.contracts.tables.name.NameOrd.TheImpl as name_ord
use Rattle.validator_core.specs.contracts.tables.name.NamePartialEq.TheImpl as name_eq
use Rattle.validator_core.specs.contracts.tables.name.NamePartialOrd.TheImpl as name_partial
use Rattle.validator_core.specs.contracts.tables.name.SealKey as seal_keys
use Rattle.validator_core.specs.contracts.tables.name.SealKeyOrd.TheImpl as seal_ord
use Rattle.validator_core.specs.contracts.tables.name.SealKeyPartialEq.TheImpl as seal_eq
use Rattle.validator_core.specs.contracts.tables.name.SealKeyPartialOrd.TheImpl as seal_partial
use Rattle.validator_core.specs.contracts.tables.tables.Tables as tables
use Rattle.validator_core.specs.contracts.tables.tables.Tables.TheInside as inside
use Rattle.escrow.specs.contracts.event_index.index.Index as indices

global_send : IsSend global.the_row
global_send = search sendable depth 20

names_send : IsSend (indices.the_row names.the_row name_ord.ghosts name_eq.ghosts name_partial.ghosts)
names_send = index.the_send names.the_row name_ord.ghosts name_eq.ghosts name_partial.ghosts name.the_send

seals_send : IsSend (indices.the_row seal_keys.the_row seal_ord.ghosts seal_eq.ghosts seal_partial.ghosts)
seals_send = index.the_send seal_keys.the_row seal_ord.ghosts seal_eq.ghosts seal_partial.ghosts seal_key.the_send

pub tables_send : IsSend tables.the_row
tables_send =
    let whole : IsSend inside.the_row = declared_send inside.the_type
    (global_send, (journal.the_send, (crossing.Vec-send event.the_row event_send, (log.the_send, (claims.the_send, (waiting_send, (search sendable, (names_send, (names_send, (came.the_send, (places.the_send, (seals_send, (search sendable, tt))))))))))))) in
    search sendable depth 4
