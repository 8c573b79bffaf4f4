use Rattle.std.proofs.Common.{rules, length, sym, ◌∙◌, ap}
use Rattle.std.specs.Prelude.{flat_map}
use Rattle.std.proofs.lemmas.List.{length-map}
use Rattle.journal.specs.Journal.Journals.{chosen}
use Rattle.report_lines.specs.Conflicts.{named_line}
use Rattle.report_lines.proofs.ConflictLines.{lines_of_sets}
use Rattle.report_lines.proofs.conflicts.conflict_lines.Goals as goal

pub returns : goal.returns
returns c =
    let held = c.args.core.now.held in
    let found = c.in_ok-conflicts.conflicts.items in
    let sets = c.in_ok-conflicts.ensures.0 in
    let names = c.in_ok-conflicts.ensures.1 in
    let those = c.in_ok-conflicts.ensures.2 in
    let long = sym (length-map found (λ c. chosen held c.bodies)) ∙ ap length names.bodies_are in
    record {
      sets = sets;
      sets_are = those;
      text_is = c.in_ok-text.ensures ∙ (ap (flat_map (named_line held)) c.as_slice.ensures.value ∙ lines_of_sets held found sets names those.two_or_more);
      has_conflicts_is = rw (sym long) (search rules);
    }
