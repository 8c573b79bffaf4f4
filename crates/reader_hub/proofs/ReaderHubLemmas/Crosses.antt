-- A hub may be shared by threads, and it and a pass may go to another one, as its core may. Where a closure that holds `&Hub` and a
-- pass goes to a thread, `search (pass_send, hub_sync, shr_send, param_send, arg_send, recorded_send, struct_send) depth 16` finds it.
use denote.Param.Send.{IsSend, IsSync}
use denote.Param.SendFields.{declared_send, declared_sync}
use Rattle.turn_lock.proofs.pass.Pass.TheSendSync as pass
use Rattle.turn_lock.proofs.turn.Turn.TheSendSync as turn
use Rattle.turn_lock.specs.contracts.pass.Pass as passes
use Rattle.validator_core.proofs.ValidatorCoreLemmas.Crosses.{core_send}
use Rattle.reader_hub.specs.contracts.reader_hub.core_head.CoreHead as head
use Rattle.reader_hub.specs.contracts.reader_hub.hub.Hub as hub
use Rattle.reader_hub.specs.contracts.reader_hub.shared_core.SharedCore as shared
use Rattle.reader_hub.proofs.reader_hub.handed_out.HandedOut.TheSendSync as handed
use Rattle.reader_hub.specs.contracts.reader_hub.shared_core.SharedCoreReplayed.TheImpl as replayed
use Rattle.reader_hub.specs.contracts.reader_hub.telling.Telling as telling

shared_send : IsSend shared.the_row
shared_send = declared_send shared.the_type (core_send, (handed.the_send, tt))

pub hub_send : IsSend hub.the_row
hub_send = declared_send hub.the_type (turn.the_send shared.the_row telling.the_row head.the_row replayed.ghosts shared_send, tt)

pub hub_sync : IsSync hub.the_row
hub_sync = declared_sync hub.the_type (turn.the_sync shared.the_row telling.the_row head.the_row replayed.ghosts shared_send, tt)

pub pass_send : IsSend (passes.the_row shared.the_row telling.the_row head.the_row replayed.ghosts)
pass_send = pass.the_send shared.the_row telling.the_row head.the_row replayed.ghosts shared_send
