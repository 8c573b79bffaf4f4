-- A core may go to another thread, as its tables may.
use denote.Param.Send.{IsSend, sendable}
use denote.Param.SendFields.{declared_send}
use Rattle.std.specs.contracts.alloc.Global as global
use Rattle.keri_outside.proofs.limits.Limits.TheSendSync as limits
use Rattle.journal.proofs.journal.mode.Mode.TheSendSync as mode
use Rattle.validator_core.proofs.TablesLemmas.Crosses.{tables_send}
use Rattle.validator_core.proofs.validator_core.tally.Tally.TheSendSync as tally
use Rattle.validator_core.specs.contracts.validator_core.validator.Core as row
use Rattle.validator_core.specs.contracts.validator_core.validator.Core.TheInside as inside

global_send : IsSend global.the_row
global_send = search sendable depth 20

pub core_send : IsSend row.the_row
core_send =
    let whole : IsSend inside.the_row = declared_send inside.the_type (global_send, (mode.the_send, (limits.the_send, (search sendable, (tables_send, (tally.the_send, tt)))))) in
    search sendable depth 4
