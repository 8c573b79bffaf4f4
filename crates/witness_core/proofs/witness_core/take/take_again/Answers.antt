use Rattle.std.proofs.Common.{ap, arith, ◌∙◌}
use Rattle.validator_core.specs.Tables.View.{body_of}
use Rattle.validator_core.specs.ValidatorCore.View.{told_of}
use Rattle.witness_core.specs.WitnessStore.Histories.{history_of}
use Rattle.witness_core.specs.WitnessStore.Room.{signatures_in}
use Rattle.witness_core.proofs.WitnessCoreLemmas.Entering.{again_number, again_room, fails_by, number_within, there_in, waits_is}
use Rattle.witness_core.proofs.WitnessStoreLemmas.Results.{if_err}
use Rattle.witness_core.proofs.WitnessStoreLemmas.Rooms.{signatures_few}
use Rattle.witness_core.proofs.WitnessStoreLemmas.RoomSteps.{signatures_at}
use Rattle.witness_core.proofs.witness_core.take.take_again.Goals as goal

pub returns-in_err-enter-clause-fault : goal.returns-in_err-enter-clause-fault
returns-in_err-enter-clause-fault c =
    let fault = c.in_err-enter.field-0.0 in
    if_err c.from_residual.result fault _ c.from_residual.ensures.1
    (fails_by _ (body_of c.args.body.now c.args.event) c.args.claims c.args.core.now c.args.room.now c.enter.new.core fault c.in_err-enter.ensures.untold c.in_err-enter.ensures.full c.in_err-enter.ensures.fault)

pub overflow_cast-signatures : goal.overflow_cast-signatures
overflow_cast-signatures c =
    let core = c.args.core.now in
    omega (
      arith,
      c.count_signatures-signatures.ensures,
      ap signatures_in c.as_slice.ensures,
      signatures_few (told_of core) (body_of c.args.body.now c.args.event) c.args.claims,
      c.in_ok-enter.ensures.came.few,
      core.limits.signatures_standard,
    )

pub add_signatures-requires-clause-held : goal.add_signatures-requires-clause-held
add_signatures-requires-clause-held c =
    let core = c.args.core.now in
    number_within core c.requires.known _ c.args.room.now c.requires.room c.args.number (body_of c.args.body.now c.args.event) c.requires.there

pub add_signatures-requires-clause-few : goal.add_signatures-requires-clause-few
add_signatures-requires-clause-few c =
    let core = c.args.core.now in
    let b = body_of c.args.body.now c.args.event in
    omega (
      arith,
      c.count_signatures-signatures.ensures,
      ap signatures_in c.as_slice.ensures,
      signatures_at (history_of core) _ c.args.room.now c.requires.room c.args.number b (there_in core c.requires.known c.args.number b c.requires.there) 0,
      signatures_few (told_of core) b c.args.claims,
      c.in_ok-enter.ensures.came.few,
      core.limits.signatures_standard,
    )

pub returns-clause-number : goal.returns-clause-number
returns-clause-number c =
    again_number c.args.core.now c.requires.known c.enter.new.core c.in_ok-enter.ensures.known (body_of c.args.body.now c.args.event) c.args.claims c.in_ok-enter.ensures.came c.args.number c.requires.there

pub returns-clause-room : goal.returns-clause-room
returns-clause-room c =
    let core = c.args.core.now in
    let b = body_of c.args.body.now c.args.event in
    again_room core c.requires.known c.enter.new.core c.in_ok-enter.ensures.known b c.args.claims c.in_ok-enter.ensures.came c.args.room.now c.add_signatures.new.self c.requires.room
    c.requires.no_receipt c.count_signatures-signatures.result (c.count_signatures-signatures.ensures ∙ ap signatures_in c.as_slice.ensures) c.args.number c.requires.there
    c.is_some-waits.result (c.is_some-waits.ensures ∙ waits_is core c.requires.known (λ w. w.now) c.look.result c.args.number b c.requires.there (c.look.ensures.found ∙ c.waiting.ensures c.args.number))
    c.add_signatures.ensures.signatures c.add_signatures.ensures.reserved
