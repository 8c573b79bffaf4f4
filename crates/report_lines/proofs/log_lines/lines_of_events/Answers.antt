use Rattle.std.proofs.Common.{◌++◌, sym, ◌∙◌, ap, arith, string_bytes}
use Rattle.std.proofs.lemmas.List.{take_all}
use Rattle.journal.specs.Journal.Journals.{chosen}
use Rattle.report_lines.specs.Lines.{accepted_text}
use Rattle.report_lines.specs.Report.{events_lines}
use Rattle.report_lines.proofs.Chosen.{line_more, line_same}
use Rattle.report_lines.proofs.log_lines.lines_of_events.Goals as goal
use Rattle.report_lines.proofs.log_lines.lines_of_events.Goals.{in-Some+in_ok-line+in_ok-push_str, in_default}

pub loop-number-init : goal.loop-number-init
unfolding chosen
loop-number-init c = λ live_events marks. c.new-text.ensures.bytes

pub loop-number-preserved : goal.loop-number-preserved
loop-number-preserved c = λ live_events marks.
    let held = c.args.core.now.held in
    let live = c.args.live.now in
    let ns = c.args.numbers.now in
    let i = c.loop-number.number-index in
    let so_far = c.loop-number.invariant live_events marks in
    elim c.match-event.branch [
      | in-Some+in_ok-line+in_ok-push_str w ↦ (
          let line = w.as_str.ensures.value ∙ w.in_ok-line.ensures ∙ ap (accepted_text w.in-Some.event.now) w.standing_among.ensures in
          ap string_bytes w.text-is ∙ w.in_ok-push_str.ensures.bytes ∙ (λ j. so_far j ++ line j)
          ∙ sym (line_more held ns i (omega arith) live live_events marks w.in-Some.event.now w.in-Some.ensures))
      | in_default w ↦ ap string_bytes w.text-is ∙ so_far ∙ sym (line_same held ns i (omega arith) live live_events marks w.in_default.ensures)
    ]

pub returns : goal.returns
returns c = λ live_events marks.
    c.loop-number.invariant live_events marks
    ∙ ap (λ ns. events_lines live_events (chosen c.args.core.now.held ns)) (take_all c.loop-number.number-index c.args.numbers.now c.loop-number-test.false)
