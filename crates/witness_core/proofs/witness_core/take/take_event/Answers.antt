use Rattle.std.proofs.Common.{◌≡◌, Some, ap, refl, subst, sym, ◌∙◌, false}
use Rattle.validator_core.specs.Tables.View.{body_of}
use Rattle.journal.specs.Journal.Logs.{is_in}
use Rattle.journal.specs.Journal.Replies.{claims_of}
use Rattle.witness_core.specs.WitnessStore.Histories.{history_of}
use Rattle.witness_core.specs.WitnessStore.Room.{IsRoom, lacks_room, signatures_in}
use Rattle.witness_core.specs.WitnessCore.Telling.{full}
use Rattle.witness_core.proofs.WitnessCoreLemmas.Entering.{untold_itself}
use Rattle.witness_core.proofs.WitnessCoreLemmas.Judging.{coming_is, full_lacks, is_new, is_there, tells_ready}
use Rattle.witness_core.proofs.WitnessStoreLemmas.Results.{some_within}
use Rattle.witness_core.proofs.witness_core.take.take_event.Goals as goal

pub lacks_room-requires-clause-held : goal.lacks_room-requires-clause-held
lacks_room-requires-clause-held g c = some_within c.args.core.now.held (body_of c.as_slice.result.now c.args.brought.event) c.number_of.result c.number_of.ensures.some

pub returns-then-lacks_room-clause-fault : goal.returns-then-lacks_room-clause-fault
returns-then-lacks_room-clause-fault g c =
    let core = c.args.core.now in
    let m = c.args.message.now in
    let b = body_of m.body c.args.brought.event in
    let came = c.requires.claims in
    full (full_lacks c.args.limits core c.args.shelf.now.list b (claims_of m) (sym (c.lacks_room.ensures.lacks b (claims_of m)
    (coming_is core c.args.brought.event c.as_slice.result.now m.body c.as_slice.ensures (claims_of m) _ c.number_of.ensures.some c.number_of.ensures.none c.len.ensures (c.count_signatures.ensures ∙ ap signatures_in (c.as_slice-2.ensures ∙ came)))) ∙ c.if-lacks_room.true)) (untold_itself core) refl

pub take_again-requires-clause-room : goal.take_again-requires-clause-room
take_again-requires-clause-room g c = subst (λ n. IsRoom (history_of c.args.core.now) n c.args.room.now) c.requires.stored.all c.requires.stored.fits.is

pub take_first-requires-clause-room : goal.take_first-requires-clause-room
take_first-requires-clause-room g c = subst (λ n. IsRoom (history_of c.args.core.now) n c.args.room.now) c.requires.stored.all c.requires.stored.fits.is

pub returns-in-Some-clause-ready : goal.returns-in-Some-clause-ready
returns-in-Some-clause-ready g c =
    let core = c.args.core.now in
    let m = c.args.message.now in
    let b = body_of m.body c.args.brought.event in
    let came = c.requires.claims in
    let lacks : lacks_room c.args.limits (history_of core) c.args.shelf.now.list b (claims_of m) ≡ false = sym (c.lacks_room.ensures.lacks b (claims_of m)
    (coming_is core c.args.brought.event c.as_slice.result.now m.body c.as_slice.ensures (claims_of m) _ c.number_of.ensures.some c.number_of.ensures.none c.len.ensures (c.count_signatures.ensures ∙ ap signatures_in (c.as_slice-2.ensures ∙ came)))) ∙ c.if-lacks_room.false in
    tells_ready c.args.limits core c.args.shelf.now.list m c.args.brought.event c.args.brought.claims came lacks c.take_again.new.core c.args.room.now c.take_again.new.room c.take_again.result
    c.requires.judged c.requires.no_receipt c.args.shelf.now.limits c.requires.limits.0 c.requires.stored.all c.requires.stored.fits (is_there core c.lacks_room.ensures.known c.in-Some.number b ((rw c.in-Some.is at c.number_of.ensures.some) ∙ ap (λ t. Some (body_of t c.args.brought.event)) c.as_slice.ensures))
    c.take_again.ensures.known c.take_again.ensures.number c.take_again.ensures.came c.take_again.ensures.room

pub returns-in-None-clause-ready : goal.returns-in-None-clause-ready
returns-in-None-clause-ready g c =
    let core = c.args.core.now in
    let m = c.args.message.now in
    let b = body_of m.body c.args.brought.event in
    let came = c.requires.claims in
    let lacks : lacks_room c.args.limits (history_of core) c.args.shelf.now.list b (claims_of m) ≡ false = sym (c.lacks_room.ensures.lacks b (claims_of m)
    (coming_is core c.args.brought.event c.as_slice.result.now m.body c.as_slice.ensures (claims_of m) _ c.number_of.ensures.some c.number_of.ensures.none c.len.ensures (c.count_signatures.ensures ∙ ap signatures_in (c.as_slice-2.ensures ∙ came)))) ∙ c.if-lacks_room.false in
    tells_ready c.args.limits core c.args.shelf.now.list m c.args.brought.event c.args.brought.claims came lacks c.take_first.new.core c.args.room.now c.take_first.new.room c.take_first.result
    c.requires.judged c.requires.no_receipt c.args.shelf.now.limits c.requires.limits.0 c.requires.stored.all c.requires.stored.fits (is_new core c.lacks_room.ensures.known b (ap (λ t. is_in core.held (body_of t c.args.brought.event)) (sym c.as_slice.ensures) ∙ (rw c.in-None.is at c.number_of.ensures.none)))
    c.take_first.ensures.known c.take_first.ensures.number c.take_first.ensures.came c.take_first.ensures.room
