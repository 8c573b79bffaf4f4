use Rattle.std.proofs.Common.{take, ◌∙◌, ap}
use Rattle.escrow.specs.EventIndex.Keys.{numbers_at}
use Rattle.validator_core.specs.Tables.AcceptedLog.Hints.{prefix_cmp}
use Rattle.validator_core.specs.Tables.AcceptedLog.Values.{Log, last_of, state_there}
use Rattle.validator_core.proofs.TablesLemmas.AcceptedLogLemmas.Hinted.{found_before}
use Rattle.validator_core.proofs.tables.accepted_log.accepted_log.AcceptedLog.last_before.Goals as goal

pub returns : goal.returns
returns c =
    let front = c.front-before.result.now in
    let is = c.front-before.ensures ∙ ap (take c.args.place) c.as_slice.ensures.value in
    let found = found_before (numbers_at prefix_cmp c.self.inside.hints) c.self.inside.states.items front c.args.place c.args.prefix.now c.last_at.result c.self.invariant.hinted is
    (let last = c.last_at.ensures in rw c.numbers.ensures.those at last) in
    c.state_there.ensures ∙ ap (state_there front) found
    ∙ ap (last_of c.args.prefix.now) (is ∙ ap (λ (v : Log). take c.args.place v.states) c.self.view_is)
