use Rattle.std.proofs.Common.{sym, ◌∙◌, ap, subst, get_or, take, arith}
use Rattle.std.specs.Prelude.{slice_get}
use Rattle.std.proofs.lemmas.List.{take_all}
use Rattle.event_body.specs.EventBody.Events.{prefix_of}
use Rattle.journal.specs.Journal.Journals.{chosen}
use Rattle.report_lines.specs.Logs.{AreLogs}
use Rattle.report_lines.proofs.Chosen.{with_event, with_none, with_one, without_event}
use Rattle.report_lines.proofs.LogGrowth.{no_logs}
use Rattle.report_lines.proofs.logs.logs_of.Goals as goal
use Rattle.report_lines.proofs.logs.logs_of.Goals.{in-Some+in_ok-add_number, in_default}

pub loop-number-init : goal.loop-number-init
loop-number-init c = no_logs c.args.core.now.held c.new-logs.result.entries c.new-logs.ensures.empty

pub loop-number-preserved : goal.loop-number-preserved
loop-number-preserved c =
    let held = c.args.core.now.held in
    let ns = c.accepted-number-items.result.now in
    let i = c.loop-number.number-index in
    elim c.match-event.branch [
      | in-Some+in_ok-add_number w ↦ (
          let found = with_event (slice_get held (get_or ns i 0)) w.in-Some.event.now w.in-Some.ensures in
          let b = found.0 in
          rw (w.logs-is, with_one held ns i (omega arith) b found.1)
          (w.in_ok-add_number.ensures held (chosen held (take i ns)) b found.1 (ap prefix_of found.2 ∙ sym w.prefix.ensures) c.loop-number.invariant))
      | in_default w ↦ rw (w.logs-is, with_none held ns i (omega arith) (without_event (slice_get held (get_or ns i 0)) w.in_default.ensures)) c.loop-number.invariant
    ]

pub returns : goal.returns
returns c =
    let held = c.args.core.now.held in
    let ns = c.accepted-number-items.result.now in
    subst (λ log. AreLogs held log c.loop-number.logs.entries)
    (ap (chosen held) (take_all c.loop-number.number-index ns c.loop-number-test.false) ∙ c.accepted-number-items.ensures.accepted) c.loop-number.invariant
