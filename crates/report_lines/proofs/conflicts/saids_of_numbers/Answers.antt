use Rattle.std.proofs.Common.{◌∷◌, [], ◌++◌, sym, ◌∙◌, ap, arith}
use Rattle.std.proofs.lemmas.List.{take_all}
use Rattle.journal.specs.Journal.Journals.{chosen}
use Rattle.report_lines.specs.Report.{saids_of}
use Rattle.report_lines.proofs.Chosen.{said_more, said_same}
use Rattle.report_lines.proofs.conflicts.saids_of_numbers.Goals as goal
use Rattle.report_lines.proofs.conflicts.saids_of_numbers.Goals.{in-Some+in_ok-push, in_default}

pub loop-number-init : goal.loop-number-init
unfolding chosen
loop-number-init c = c.new-saids.ensures.items

pub loop-number-preserved : goal.loop-number-preserved
loop-number-preserved c =
    let held = c.args.core.now.held in
    let ns = c.args.numbers.now in
    let i = c.loop-number.number-index in
    elim c.match-event.branch [
      | in-Some+in_ok-push w ↦ (
          ap (λ v. v.items) w.saids-is ∙ w.in_ok-push.ensures.items
          ∙ (λ j. c.loop-number.invariant j ++ w.said.ensures j ∷ [])
          ∙ sym (said_more held ns i (omega arith) w.in-Some.event.now w.in-Some.ensures))
      | in_default w ↦ (
          ap (λ v. v.items) w.saids-is ∙ c.loop-number.invariant ∙ sym (said_same held ns i (omega arith) w.in_default.ensures))
    ]

pub returns : goal.returns
returns c =
    c.loop-number.invariant
    ∙ ap (λ ns. saids_of (chosen c.args.core.now.held ns)) (take_all c.loop-number.number-index c.args.numbers.now c.loop-number-test.false)
