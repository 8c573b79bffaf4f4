use Rattle.std.proofs.Common.{◌+◌, ◌*◌, ap, arith, length, ◌∙◌}
use Rattle.std.proofs.lemmas.List.{length-map}
use Rattle.validator_core.specs.Tables.View.{body_of}
use Rattle.validator_core.specs.ValidatorCore.View.{told_of}
use Rattle.witness_core.specs.WitnessStore.Room.{signatures_in}
use Rattle.witness_core.specs.WitnessCore.Telling.{told, untold}
use Rattle.witness_core.proofs.WitnessCoreLemmas.Entering.{fails_by, first_number, first_room, untold_itself}
use Rattle.witness_core.proofs.WitnessStoreLemmas.Results.{if_err}
use Rattle.witness_core.proofs.WitnessStoreLemmas.Rooms.{signatures_few}
use Rattle.witness_core.proofs.witness_core.take.take_first.Goals as goal

pub returns-in_default-clause-fault : goal.returns-in_default-clause-fault
returns-in_default-clause-fault c = untold (untold_itself c.args.core.now)

pub returns-in_err-enter-clause-fault : goal.returns-in_err-enter-clause-fault
returns-in_err-enter-clause-fault c =
    let fault = c.in_err-enter.field-0.0 in
    if_err c.from_residual.result fault _ c.from_residual.ensures.1
    (fails_by _ (body_of c.args.body.now c.args.event) c.args.claims c.args.core.now c.args.room.now c.enter.new.core fault c.in_err-enter.ensures.untold c.in_err-enter.ensures.full c.in_err-enter.ensures.fault)

pub overflow_cast-signatures : goal.overflow_cast-signatures
overflow_cast-signatures c =
    let core = c.args.core.now in
    omega (
      arith,
      c.count_signatures-signatures.ensures,
      ap signatures_in c.as_slice.ensures,
      signatures_few (told_of core) (body_of c.args.body.now c.args.event) c.args.claims,
      c.in_ok-enter.ensures.came.few,
      core.limits.signatures_standard,
    )

pub returns-in_err-add_body-clause-fault : goal.returns-in_err-add_body-clause-fault
returns-in_err-add_body-clause-fault c = if_err c.from_residual-in_err-add_body.result _ _ c.from_residual-in_err-add_body.ensures.1 (told c.in_ok-enter.ensures.came)

pub returns-clause-number : goal.returns-clause-number
returns-clause-number c =
    let core = c.args.core.now in
    let numbered = rw c.in-Ok.is at c.length_u32.ensures.ok in
    first_number core c.requires.known c.enter.new.core c.in_ok-enter.ensures.known (body_of c.args.body.now c.args.event) c.args.claims c.in_ok-enter.ensures.came c.in-Ok.number
    (numbered ∙ c.len.ensures ∙ ap length c.journal.ensures.bodies ∙ length-map core.held (λ b. b.bytes)) c.requires.new

pub returns-clause-room : goal.returns-clause-room
returns-clause-room c =
    let core = c.args.core.now in
    first_room core c.requires.known c.enter.new.core c.in_ok-enter.ensures.known (body_of c.args.body.now c.args.event) c.args.claims c.in_ok-enter.ensures.came c.args.room.now c.add_body.new.self c.requires.room
    c.requires.no_receipt c.count_signatures-signatures.result (c.count_signatures-signatures.ensures ∙ ap signatures_in c.as_slice.ensures) c.requires.new
    c.in_ok-add_body.ensures.signatures (c.in_ok-add_body.ensures.reserved ∙ ap (λ n. c.args.room.now.reserved + (n + 13 + 92 * c.count_signatures-signatures.result)) c.len-2.ensures)
