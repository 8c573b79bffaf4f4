use Rattle.std.proofs.Common.{sym, subst}
use Rattle.validator_core.specs.Tables.View.{body_of}
use Rattle.journal.specs.Journal.Replies.{claims_of}
use Rattle.witness_core.specs.WitnessStore.Histories.{history_of}
use Rattle.witness_core.specs.WitnessStore.Room.{HasRoom}
use Rattle.witness_core.proofs.WitnessCoreLemmas.Heard.{asked_then, came_asks, hears_of, untold_asks}
use Rattle.witness_core.proofs.WitnessCoreLemmas.Messages.{came_grown, came_way, message_asks, message_caused, message_goes, message_kept, message_tells, tells, tells_first}
use Rattle.witness_core.proofs.WitnessStoreLemmas.Results.{if_err, match_err}
use Rattle.witness_core.proofs.WitnessCoreLemmas.Takes.{ask_tells, goes_asked, same_goes, same_stored, same_untold, store_tells, taken_as}
use Rattle.witness_core.proofs.witness_core.witness.Witness.take_whole.Goals as goal

pub returns-in_err-taken-clause-kept : goal.returns-in_err-taken-clause-kept
returns-in_err-taken-clause-kept g c =
    let s = c.args.self.now.shelf in
    let fault = c.in_err-taken.field-0.0 in
    if_err c.from_residual.result fault _ c.from_residual.ensures.1
    (message_kept c.args.self.now.core s.list s.limits s.broken (g.D.Disk.shown s.disk) (g.met.D.Disk.only_now s.disk) c.args.self.now.room c.requires.stored c.take_in.new.core c.take_in.new.room c.args.message.now fault c.in_err-taken.ensures.fault)

pub returns-in_err-taken-clause-goes_on : goal.returns-in_err-taken-clause-goes_on
returns-in_err-taken-clause-goes_on g c =
    let s = c.args.self.now.shelf in
    message_goes c.args.self.now.core s.list s.limits s.broken (g.D.Disk.shown s.disk) (g.met.D.Disk.only_now s.disk) c.args.self.now.room c.requires.stored c.take_in.new.core c.take_in.new.room c.args.message.now c.in_err-taken.field-0.0 c.in_err-taken.ensures.fault

pub returns-in_err-taken-clause-told : goal.returns-in_err-taken-clause-told
returns-in_err-taken-clause-told g c =
    let s = c.args.self.now.shelf in
    let fault = c.in_err-taken.field-0.0 in
    match_err c.from_residual.result fault _ _ c.from_residual.ensures.1
    (message_tells c.args.self.now.core s.list s.limits s.broken (g.D.Disk.shown s.disk) (g.met.D.Disk.only_now s.disk) c.args.self.now.room c.requires.stored c.take_in.new.core c.take_in.new.room c.args.message.now fault (g.V.Verifier.says c.args.verifier.now) c.in_err-taken.ensures.fault)

pub returns-in_err-taken-clause-causes : goal.returns-in_err-taken-clause-causes
returns-in_err-taken-clause-causes g c =
    let s = c.args.self.now.shelf in
    let fault = c.in_err-taken.field-0.0 in
    if_err c.from_residual.result fault _ c.from_residual.ensures.1
    (message_caused c.args.self.now.core s.list s.limits s.broken (g.D.Disk.shown s.disk) (g.met.D.Disk.only_now s.disk) c.args.self.now.room c.requires.stored c.take_in.new.core c.take_in.new.room c.args.message.now fault c.in_err-taken.ensures.fault
    (g.D.Disk.shown s.disk).faults (g.V.Verifier.faults c.args.verifier.now))

pub returns-in-Refused-clause-stored : goal.returns-in-Refused-clause-stored
returns-in-Refused-clause-stored g c =
    let s = c.args.self.now.shelf in
    let taken = rw c.in-Refused.is at c.in_ok-taken.ensures.taken in
    same_stored c.args.self.now.core s.list s.limits s.broken (g.D.Disk.shown s.disk) (g.met.D.Disk.only_now s.disk) c.args.self.now.room c.requires.stored c.take_in.new.core taken.1 c.take_in.new.room taken.2

pub returns-in-Refused-clause-goes_on : goal.returns-in-Refused-clause-goes_on
returns-in-Refused-clause-goes_on g c =
    let s = c.args.self.now.shelf in
    let taken = rw c.in-Refused.is at c.in_ok-taken.ensures.taken in
    same_goes c.args.self.now.core s.list s.limits s.broken (g.D.Disk.shown s.disk) (g.met.D.Disk.only_now s.disk) c.args.self.now.room c.requires.stored c.take_in.new.core taken.1

pub returns-in-Refused-clause-told : goal.returns-in-Refused-clause-told
returns-in-Refused-clause-told g c =
    let taken = rw c.in-Refused.is at c.in_ok-taken.ensures.taken in
    (taken.0, same_untold c.args.self.now.core c.take_in.new.core taken.1)

pub returns-in-NotAnEvent-clause-stored : goal.returns-in-NotAnEvent-clause-stored
returns-in-NotAnEvent-clause-stored g c =
    let s = c.args.self.now.shelf in
    let taken = rw c.in-NotAnEvent.is at c.in_ok-taken.ensures.taken in
    same_stored c.args.self.now.core s.list s.limits s.broken (g.D.Disk.shown s.disk) (g.met.D.Disk.only_now s.disk) c.args.self.now.room c.requires.stored c.take_in.new.core taken.1 c.take_in.new.room taken.2

pub returns-in-NotAnEvent-clause-goes_on : goal.returns-in-NotAnEvent-clause-goes_on
returns-in-NotAnEvent-clause-goes_on g c =
    let s = c.args.self.now.shelf in
    let taken = rw c.in-NotAnEvent.is at c.in_ok-taken.ensures.taken in
    same_goes c.args.self.now.core s.list s.limits s.broken (g.D.Disk.shown s.disk) (g.met.D.Disk.only_now s.disk) c.args.self.now.room c.requires.stored c.take_in.new.core taken.1

pub returns-in-NotAnEvent-clause-told : goal.returns-in-NotAnEvent-clause-told
returns-in-NotAnEvent-clause-told g c =
    let taken = rw c.in-NotAnEvent.is at c.in_ok-taken.ensures.taken in
    (taken.0, same_untold c.args.self.now.core c.take_in.new.core taken.1)

pub store-requires-clause-on_way : goal.store-requires-clause-on_way
store-requires-clause-on_way g c =
    let s = c.args.self.now.shelf in
    let m = c.args.message.now in
    let ready = rw c.in-Event.is at c.in_ok-taken.ensures.taken in
    came_way c.args.self.now.core s.list s.limits s.broken (g.D.Disk.shown s.disk) (g.met.D.Disk.only_now s.disk) c.args.self.now.room c.requires.stored c.take_in.new.core (body_of m.body ready.event) (claims_of m) ready.came

pub store-requires-clause-grown : goal.store-requires-clause-grown
store-requires-clause-grown g c =
    let s = c.args.self.now.shelf in
    let m = c.args.message.now in
    let ready = rw c.in-Event.is at c.in_ok-taken.ensures.taken in
    came_grown c.args.self.now.core s.list s.limits s.broken (g.D.Disk.shown s.disk) (g.met.D.Disk.only_now s.disk) c.args.self.now.room c.requires.stored c.take_in.new.core (body_of m.body ready.event) (claims_of m) ready.came

pub store-requires-clause-fits : goal.store-requires-clause-fits
store-requires-clause-fits g c =
    let ready = rw c.in-Event.is at c.in_ok-taken.ensures.taken in
    subst (λ l. HasRoom l (history_of c.take_in.new.core) c.args.self.now.shelf.list c.take_in.new.room) (sym c.args.self.now.shelf_limits) ready.fits

pub returns-in_err-store-in-Event-clause-told : goal.returns-in_err-store-in-Event-clause-told
returns-in_err-store-in-Event-clause-told g c =
    let d = (g.D.Disk.shown c.args.self.now.shelf.disk).faults in
    let m = c.args.message.now in
    let says = g.V.Verifier.says c.args.verifier.now in
    let fault = c.in_err-store-in-Event.field-0.0 in
    let ready = rw c.in-Event.is at c.in_ok-taken.ensures.taken in
    match_err c.from_residual-in_err-store-in-Event.result fault _ _ c.from_residual-in_err-store-in-Event.ensures.1
    (store_tells d (g.D.Disk.shown c.store.new.shelf.disk).faults says c.args.self.now.core m c.take_in.new.core (tells_first says m ready.event ready.judged ready.no_receipt c.args.self.now.core c.take_in.new.core ready.came) fault c.in_err-store-in-Event.ensures.fault)

pub returns-in_err-ask_open-in-Event-clause-goes_on : goal.returns-in_err-ask_open-in-Event-clause-goes_on
returns-in_err-ask_open-in-Event-clause-goes_on g c =
    let s = c.args.self.now.shelf in
    goes_asked c.take_in.new.core c.ask_open.new.core s.list c.store.new.shelf.list c.ask_open.new.shelf.list (g.D.Disk.shown s.disk) (g.D.Disk.shown c.store.new.shelf.disk) (g.D.Disk.shown c.ask_open.new.shelf.disk)
    c.store.ensures.appends c.in_ok-store-in-Event.ensures.stored.all c.ask_open.ensures.goes_on

pub returns-in_err-ask_open-in-Event-clause-told : goal.returns-in_err-ask_open-in-Event-clause-told
returns-in_err-ask_open-in-Event-clause-told g c =
    let m = c.args.message.now in
    let says = g.V.Verifier.says c.args.verifier.now in
    let fault = c.in_err-ask_open-in-Event.field-0.0 in
    let ready = rw c.in-Event.is at c.in_ok-taken.ensures.taken in
    match_err c.from_residual-in_err-ask_open-in-Event.result fault _ _ c.from_residual-in_err-ask_open-in-Event.ensures.1
    (ask_tells (g.D.Disk.shown c.store.new.shelf.disk).faults (g.D.Disk.shown c.ask_open.new.shelf.disk).faults (g.V.Verifier.faults c.args.verifier.now) (g.V.Verifier.faults c.ask_open.new.verifier) says c.args.self.now.core m c.ask_open.new.core
    (tells says m ready.event ready.judged ready.no_receipt c.args.self.now.core c.take_in.new.core c.ask_open.new.core ready.came (hears_of c.ask_open.ensures.asks)) fault c.in_err-ask_open-in-Event.ensures.fault)

pub returns-in_ok-ask_open-in-Event-clause-goes_on : goal.returns-in_ok-ask_open-in-Event-clause-goes_on
returns-in_ok-ask_open-in-Event-clause-goes_on g c =
    let s = c.args.self.now.shelf in
    goes_asked c.take_in.new.core c.ask_open.new.core s.list c.store.new.shelf.list c.ask_open.new.shelf.list (g.D.Disk.shown s.disk) (g.D.Disk.shown c.store.new.shelf.disk) (g.D.Disk.shown c.ask_open.new.shelf.disk)
    c.store.ensures.appends c.in_ok-store-in-Event.ensures.stored.all c.ask_open.ensures.goes_on

pub returns-in_ok-ask_open-in-Event-clause-taken : goal.returns-in_ok-ask_open-in-Event-clause-taken
returns-in_ok-ask_open-in-Event-clause-taken g c =
    let ready = rw c.in-Event.is at c.in_ok-taken.ensures.taken in
    taken_as (g.V.Verifier.says c.args.verifier.now) c.take_in.new.core c.ask_open.new.core ready.known c.sound.ensures.sound (hears_of c.ask_open.ensures.asks)
    c.args.self.now.limits c.args.self.now.core c.args.self.now.shelf.list c.ask_open.new.shelf.list c.args.message.now c.in-Event.number c.take_in.new.room ready

pub returns-in_err-taken-clause-verdicts : goal.returns-in_err-taken-clause-verdicts
returns-in_err-taken-clause-verdicts g c =
    let s = c.args.self.now.shelf in
    message_asks c.args.self.now.core s.list s.limits s.broken (g.D.Disk.shown s.disk) (g.met.D.Disk.only_now s.disk) c.args.self.now.room c.requires.stored c.take_in.new.core c.take_in.new.room c.args.message.now c.in_err-taken.field-0.0
    (g.V.Verifier.inquiries c.args.verifier.now) c.in_err-taken.ensures.fault

pub returns-in-Refused-clause-verdicts : goal.returns-in-Refused-clause-verdicts
returns-in-Refused-clause-verdicts g c =
    let taken = rw c.in-Refused.is at c.in_ok-taken.ensures.taken in
    untold_asks (g.V.Verifier.inquiries c.args.verifier.now) c.args.self.now.core c.take_in.new.core (same_untold c.args.self.now.core c.take_in.new.core taken.1)

pub returns-in-NotAnEvent-clause-verdicts : goal.returns-in-NotAnEvent-clause-verdicts
returns-in-NotAnEvent-clause-verdicts g c =
    let taken = rw c.in-NotAnEvent.is at c.in_ok-taken.ensures.taken in
    untold_asks (g.V.Verifier.inquiries c.args.verifier.now) c.args.self.now.core c.take_in.new.core (same_untold c.args.self.now.core c.take_in.new.core taken.1)

pub returns-in_err-store-in-Event-clause-verdicts : goal.returns-in_err-store-in-Event-clause-verdicts
returns-in_err-store-in-Event-clause-verdicts g c =
    let m = c.args.message.now in
    let ready = rw c.in-Event.is at c.in_ok-taken.ensures.taken in
    came_asks (g.V.Verifier.inquiries c.args.verifier.now) c.args.self.now.core (body_of m.body ready.event) (claims_of m) c.take_in.new.core ready.came

pub returns-in_err-ask_open-in-Event-clause-verdicts : goal.returns-in_err-ask_open-in-Event-clause-verdicts
returns-in_err-ask_open-in-Event-clause-verdicts g c =
    let m = c.args.message.now in
    let ready = rw c.in-Event.is at c.in_ok-taken.ensures.taken in
    asked_then (g.V.Verifier.inquiries c.args.verifier.now) c.args.self.now.core (body_of m.body ready.event) (claims_of m) c.take_in.new.core ready.came
    (g.V.Verifier.says c.args.verifier.now) (g.V.Verifier.inquiries c.ask_open.new.verifier) c.ask_open.new.core c.ask_open.ensures.asks

pub returns-in_ok-ask_open-in-Event-clause-verdicts : goal.returns-in_ok-ask_open-in-Event-clause-verdicts
returns-in_ok-ask_open-in-Event-clause-verdicts g c =
    let m = c.args.message.now in
    let ready = rw c.in-Event.is at c.in_ok-taken.ensures.taken in
    asked_then (g.V.Verifier.inquiries c.args.verifier.now) c.args.self.now.core (body_of m.body ready.event) (claims_of m) c.take_in.new.core ready.came
    (g.V.Verifier.says c.args.verifier.now) (g.V.Verifier.inquiries c.ask_open.new.verifier) c.ask_open.new.core c.ask_open.ensures.asks
