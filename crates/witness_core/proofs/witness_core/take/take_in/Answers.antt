use Rattle.std.proofs.Common.{sym, ◌∙◌}
use Rattle.witness_core.proofs.WitnessCoreLemmas.Judging.{fails_full, fails_message, refused_stays, room_stays}
use Rattle.witness_core.proofs.WitnessCoreLemmas.Messages.{message_follows}
use Rattle.witness_core.proofs.WitnessStoreLemmas.Results.{if_err, match_err}
use Rattle.witness_core.proofs.witness_core.take.take_in.Goals as goal

pub returns-in_err-number-in-Ok-clause-full : goal.returns-in_err-number-in-Ok-clause-full
returns-in_err-number-in-Ok-clause-full g c =
    let fault = c.in_err-number-in-Ok.field-0.0 in
    let judged = rw c.in-Ok.is at c.in_ok-reason.ensures in
    match_err c.from_residual-in_err-number-in-Ok.result fault _ _ c.from_residual-in_err-number-in-Ok.ensures.1
    (fails_full c.args.limits c.args.core.now c.args.shelf.now.list c.args.message.now c.in-Ok.event judged (sym c.is_receipt.ensures ∙ c.if-is_receipt.false) c.args.room.now c.take_event.new.core c.take_event.new.room fault c.in_err-number-in-Ok.ensures.fault)

pub returns-in_err-number-in-Ok-clause-fault : goal.returns-in_err-number-in-Ok-clause-fault
returns-in_err-number-in-Ok-clause-fault g c =
    let fault = c.in_err-number-in-Ok.field-0.0 in
    let judged = rw c.in-Ok.is at c.in_ok-reason.ensures in
    if_err c.from_residual-in_err-number-in-Ok.result fault _ c.from_residual-in_err-number-in-Ok.ensures.1
    (fails_message c.args.message.now _ c.in-Ok.event (sym c.is_receipt.ensures ∙ c.if-is_receipt.false) judged c.args.core.now c.args.room.now c.take_event.new.core c.take_event.new.room fault c.in_err-number-in-Ok.ensures.fault)

pub returns-in-Err-clause-full : goal.returns-in-Err-clause-full
returns-in-Err-clause-full g c = refused_stays c.args.limits c.args.core.now c.args.shelf.now.list c.args.message.now c.in-Err.reason (rw c.in-Err.is at c.in_ok-reason.ensures)

pub returns-in_ok-number-in-Ok-clause-full : goal.returns-in_ok-number-in-Ok-clause-full
returns-in_ok-number-in-Ok-clause-full g c = room_stays c.args.limits c.args.core.now c.args.shelf.now.list c.args.message.now c.in-Ok.event (rw c.in-Ok.is at c.in_ok-reason.ensures) c.in_ok-number-in-Ok.ensures.room

pub returns-in_err-number-in-Ok-clause-follows : goal.returns-in_err-number-in-Ok-clause-follows
returns-in_err-number-in-Ok-clause-follows g c =
    let s = c.args.shelf.now in
    let fault = c.in_err-number-in-Ok.field-0.0 in
    let judged = rw c.in-Ok.is at c.in_ok-reason.ensures in
    message_follows c.args.core.now s.list s.limits s.broken (g.D.Disk.shown s.disk) (g.met.D.Disk.only_now s.disk) c.args.room.now c.requires.stored c.take_event.new.core c.take_event.new.room c.args.message.now fault
    (fails_message c.args.message.now _ c.in-Ok.event (sym c.is_receipt.ensures ∙ c.if-is_receipt.false) judged c.args.core.now c.args.room.now c.take_event.new.core c.take_event.new.room fault c.in_err-number-in-Ok.ensures.fault)
