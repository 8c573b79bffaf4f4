use Rattle.std.proofs.Common.{ap, arith, length}
use Rattle.std.proofs.lemmas.List.{length-map}
use Rattle.journal.specs.declared.journal.body.Body.{Body}
use Rattle.witness_core.proofs.WitnessStoreLemmas.Known.{known_by}
use Rattle.witness_core.proofs.WitnessStoreLemmas.RoomSteps.{waiting_counted}
use Rattle.witness_core.proofs.witness_store.room.count_waiting.Goals as goal

pub overflow_sub-result : goal.overflow_sub-result
overflow_sub-result c =
    let core = c.args.core.now in
    let known = known_by core c.accepted.result.now c.accepted.ensures.held c.accepted.ensures.accepted c.accepted.ensures.numbers c.journal.ensures.sound in
    omega (
      arith,
      waiting_counted core known c.requires.grown c.requires.events,
      ap length c.accepted.ensures.numbers,
      c.len.ensures,
      ap length c.journal.ensures.bodies,
      length-map core.held (λ (b : Body). b.bytes),
    )

pub returns-clause-count : goal.returns-clause-count
returns-clause-count c =
    let core = c.args.core.now in
    let known = known_by core c.accepted.result.now c.accepted.ensures.held c.accepted.ensures.accepted c.accepted.ensures.numbers c.journal.ensures.sound in
    omega (
      arith,
      waiting_counted core known c.requires.grown c.requires.events,
      ap length c.accepted.ensures.numbers,
      c.len.ensures,
      ap length c.journal.ensures.bodies,
      length-map core.held (λ (b : Body). b.bytes),
    )
