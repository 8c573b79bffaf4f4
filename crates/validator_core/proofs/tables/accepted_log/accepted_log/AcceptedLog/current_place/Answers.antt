use Rattle.std.proofs.Common.{ap, ◌∙◌}
use Rattle.escrow.specs.EventIndex.Keys.{numbers_at}
use Rattle.validator_core.specs.Tables.AcceptedLog.Hints.{prefix_cmp}
use Rattle.validator_core.specs.Tables.AcceptedLog.Values.{Log, last_place}
use Rattle.validator_core.proofs.TablesLemmas.AcceptedLogLemmas.Hinted.{found_place}
use Rattle.validator_core.proofs.tables.accepted_log.accepted_log.AcceptedLog.current_place.Goals as goal

pub returns : goal.returns
returns c =
    found_place (numbers_at prefix_cmp c.self.inside.hints) c.self.inside.states.items c.args.prefix.now c.last_at.result c.self.invariant.hinted
    (let last = c.last_at.ensures in rw (c.as_slice.ensures.value, c.numbers.ensures.those) at last)
    ∙ ap (λ (v : Log). last_place c.args.prefix.now v.states) c.self.view_is
