use Rattle.std.proofs.Common.{◌&&◌, ◌∙◌, ap}
use Rattle.claim_table.specs.CoreLaws.Waking.{holds_first_seal}
use Rattle.event_body.specs.EventBody.Events.{prefix_of}
use Rattle.journal.specs.Journal.Logs.{state}
use Rattle.journal.specs.Journal.Seals.{delegator_of}
use Rattle.validator_core.specs.Tables.View.{body_of, log_of}
use Rattle.validator_core.proofs.table_changes.wait_target.seals_first.Goals as goal

pub returns-in-Some : goal.returns-in-Some
returns-in-Some c = λ bs cs.
    let log = log_of c.args.tables.now in let e = c.args.event.now in let w = c.args.waiting.now in
    let first = holds_first_seal log (body_of cs e) (body_of bs w) in
    c.holds_first_seal.ensures bs cs ∙ ap first c.in-Some.ensures
    ∙ ap (λ y. y && first (delegator_of (state log (prefix_of w)) w)) c.if-not-is_delegated.ensures
