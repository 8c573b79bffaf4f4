use Rattle.std.proofs.Common.{ap, sym, ◌∙◌, subst}
use Rattle.std.specs.Prelude.{slice_get}
use Rattle.event_body.specs.EventBody.Events.{prefix_of}
use Rattle.journal.specs.Journal.Logs as logs
use Rattle.validator_core.specs.Tables.AcceptedLog.Cuts.{AreBothAlike, under_at}
use Rattle.validator_core.proofs.TablesLemmas.AcceptedLogLemmas.Under.{under_alike_at}
use Rattle.validator_core.proofs.tables.accepted_log.accepted_log.AcceptedLog.state_before.Goals as goal

pub returns-clause-alike : goal.returns-clause-alike
returns-clause-alike c = λ log b is grown at its.
    let v = c.args.self.now in
    let seen = ap (λ e. under_at v.states e (slice_get v.places c.args.i)) its ∙ sym c.state_under.ensures in
    subst (λ o. AreBothAlike o (logs.state (logs.before b log) (prefix_of b.event))) seen (under_alike_at log v is grown c.args.i b at)
