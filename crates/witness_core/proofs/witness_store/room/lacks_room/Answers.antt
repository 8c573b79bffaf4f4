use Rattle.std.proofs.Common.{◌≤◌, ◌+◌, ◌∙◌, ap, arith, length, nat_lt}
use Rattle.validator_core.specs.ValidatorCore.View.{accepted_by}
use Rattle.witness_core.specs.WitnessStore.Histories.{bodies_in, history_of}
use Rattle.witness_core.specs.WitnessStore.Room.{count_waiting as count_waiting_in}
use Rattle.witness_core.proofs.WitnessStoreLemmas.Lacking.{lacks_bytes}
use Rattle.witness_core.proofs.witness_store.room.lacks_room.Goals as goal

pub overflow_add-result-else-listed-waiting : goal.overflow_add-result-else-listed-waiting
overflow_add-result-else-listed-waiting g c = omega (arith, c.needs-needed.ensures.small, c.from-else-listed-waiting.ensures, c.from-else-listed-waiting-2.ensures)

pub returns-else-listed-waiting-clause-lacks : goal.returns-else-listed-waiting-clause-lacks
returns-else-listed-waiting-clause-lacks g c = λ b claims comes.
    let core = c.args.core.now in
    let shelf = c.args.shelf.now in
    let known = c.count_waiting-waiting.ensures.known in
    let few : length shelf.list + count_waiting_in (accepted_by core) (bodies_in (history_of core)) + 1 ≤ c.args.limits.records
    = omega (arith, c.if-listed-waiting.false, ap length c.list.ensures, c.count_waiting-waiting.ensures.count, c.from.ensures) in
    (λ i. nat_lt (c.from-else-listed-waiting-3.ensures i) ((c.from-else-listed-waiting.ensures ∙ c.bytes.ensures) i + c.from-else-listed-waiting-2.ensures i + c.needs-needed.result))
    ∙ lacks_bytes core known shelf.list c.requires.stored.all c.args.room.now c.requires.stored.fits.is b claims c.args.coming comes c.args.limits c.needs-needed.result
    c.needs-needed.ensures.some c.needs-needed.ensures.none few
